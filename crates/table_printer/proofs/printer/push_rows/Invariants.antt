use Rattle.std.proofs.Common.{◌≡◌, ◌-◌, ◌++◌, drop, take}
use Rattle.table_printer.specs.TableText.{lines_of}
use Rattle.table_printer.proofs.printer.push_rows.Given as goal

-- with the lines of the rows that are left it is all of the text
abbrev pub invariant-rows : goal.invariant-rows
invariant-rows l =
    l.text ++ lines_of l.kind (take (l.until - l.at) (drop l.at l.rows))
    ≡ l.fn.text ++ lines_of l.kind (take (l.until - l.from) (drop l.from l.rows))
