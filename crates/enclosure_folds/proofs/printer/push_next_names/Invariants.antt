use Rattle.std.proofs.Common.{◌≡◌, ◌++◌, drop}
use Rattle.table_printer.specs.TableText.{cells_continued}
use Rattle.enclosure_folds.proofs.printer.push_next_names.Given as goal

-- what is written, and then what is left, make the whole
abbrev pub invariant-loop-name : goal.invariant-loop-name
invariant-loop-name l = l.text ++ cells_continued (drop l.name-index l.names) ≡ l.fn.text ++ cells_continued l.names
