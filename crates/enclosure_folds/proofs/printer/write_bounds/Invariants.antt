use Rattle.std.{proofs.Common.{◌≤◌, ◌++◌, drop}, specs.List.flat_map}
use Rattle.table_printer.specs.TableText.{table_line}
use Rattle.marple_base.specs.Pieces.{TakesAllBut}
use Rattle.enclosure_folds.specs.BoundsTables.{bounds_parts, bounds_text}
use Rattle.enclosure_folds.proofs.printer.write_bounds.Given as goal

-- what waits, and then the lines of the rows that are left, is all of the table that isn't written
abbrev pub invariant-loop-row : goal.invariant-loop-row
invariant-loop-row g l = record {
  written : TakesAllBut (g.O.Sink.taken l.fn.out) (g.O.Sink.taken l.out)
      (l.text ++ flat_map (λ row. table_line (bounds_parts row)) (drop l.row-index l.t.rows)) (l.fn.text ++ bounds_text l.t);
  out_later : g.O.Sink.faults l.fn.out ≤ g.O.Sink.faults l.out;
}
