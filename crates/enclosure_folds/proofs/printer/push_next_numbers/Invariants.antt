use Rattle.std.proofs.Common.{◌≡◌, ◌++◌, drop}
use Rattle.table_printer.specs.TableText.{cells_continued, numbers}
use Rattle.enclosure_folds.proofs.printer.push_next_numbers.Given as goal

-- what is written, and then what is left, make the whole
abbrev pub invariant-loop-word : goal.invariant-loop-word
invariant-loop-word l = l.text ++ cells_continued (numbers (drop l.word-index l.words)) ≡ l.fn.text ++ cells_continued (numbers l.words)
