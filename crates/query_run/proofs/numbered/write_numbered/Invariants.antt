use Rattle.std.{proofs.Common.{◌≤◌, ◌++◌, drop}, specs.List.flat_map}
use Rattle.query_tables.specs.Tables.{table_text_at}
use Rattle.marple_base.specs.Pieces.{TakesAllBut}
use Rattle.query_run.proofs.numbered.write_numbered.Given as goal

-- what waits, and then the texts of the prints that are left, is all that isn't written
abbrev pub invariant-loop-number : goal.invariant-loop-number
invariant-loop-number g l = record {
  written : TakesAllBut (g.O.Sink.taken l.fn.out) (g.O.Sink.taken l.out)
      (l.text ++ flat_map (table_text_at l.tables) (drop l.number-index l.prints))
      (l.fn.text ++ flat_map (table_text_at l.tables) l.prints);
  out_later : g.O.Sink.faults l.fn.out ≤ g.O.Sink.faults l.out;
}
