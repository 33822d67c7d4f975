use Rattle.std.proofs.Common.{◌≡◌, ◌++◌, drop}
use Rattle.table_printer.specs.Parts.{parts_from}
use Rattle.table_printer.proofs.parts.push_names.Given as goal

-- what is written, and then what is left, make the whole
abbrev pub invariant-names : goal.invariant-names
invariant-names l = l.text ++ parts_from l.is_first (drop l.name-index l.names) ≡ l.fn.text ++ parts_from l.begins l.names
