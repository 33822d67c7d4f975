use Rattle.std.proofs.Common.{◌-◌, ◌≤◌, ◌++◌, drop, length}
use Rattle.table_printer.specs.TableText.{lines_of, table_text}
use Rattle.marple_base.specs.Pieces.{TakesAllBut}
use Rattle.table_printer.proofs.printer.write_table.Given as goal

-- what waits, and then the lines of the rows that are left, is all of the table that isn't written
abbrev pub invariant-rows : goal.invariant-rows
invariant-rows g l = record {
  written : TakesAllBut (g.O.Sink.taken l.fn.out) (g.O.Sink.taken l.out)
      (l.text ++ lines_of l.table.kind (drop l.at l.table.rows)) (l.fn.text ++ table_text l.table);
  low : l.at ≤ length l.table.rows;
  out_later : g.O.Sink.faults l.fn.out ≤ g.O.Sink.faults l.out;
}

abbrev pub decreases-rows : goal.decreases-rows
decreases-rows g l = length l.table.rows - l.at
