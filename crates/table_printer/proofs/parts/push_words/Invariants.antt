use Rattle.std.proofs.Common.{◌≡◌, ◌++◌, drop}
use Rattle.table_printer.specs.{TableText.numbers, Parts.parts_from}
use Rattle.table_printer.proofs.parts.push_words.Given as goal

-- what is written, and then what is left, make the whole
abbrev pub invariant-words : goal.invariant-words
invariant-words l = l.text ++ parts_from l.is_first (numbers (drop l.word-index l.words)) ≡ l.fn.text
    ++ parts_from l.begins (numbers l.words)
