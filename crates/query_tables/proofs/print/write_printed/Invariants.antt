use Rattle.std.{proofs.Common.{◌≤◌, ◌++◌, drop}, specs.List.flat_map}
use Rattle.query_lang.specs.TypedFinals.{table_number}
use Rattle.query_tables.specs.Tables.{table_text_at}
use Rattle.marple_base.specs.Pieces.{TakesAllBut}
use Rattle.query_tables.proofs.print.write_printed.Given as goal

-- what waits, and then the texts of the prints that are left, is all that isn't written
abbrev pub invariant-loop-one : goal.invariant-loop-one
invariant-loop-one g l = record {
  written : TakesAllBut (g.O.Sink.taken l.fn.out) (g.O.Sink.taken l.out)
      (l.text ++ flat_map (λ one. table_text_at l.tables (table_number l.groups one)) (drop l.one-index l.prints))
      (l.fn.text ++ flat_map (λ one. table_text_at l.tables (table_number l.groups one)) l.prints);
  out_later : g.O.Sink.faults l.fn.out ≤ g.O.Sink.faults l.out;
}
