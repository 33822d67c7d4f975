-- The sink and the buffer have the texts of the numbers so far, and those of the numbers left are still to write.
use Rattle.std.proofs.Common.{refl, ◌≡◌, ◌<◌, ℕ, List, ◌+◌, ◌++◌, Some, arith, append-nil, drop, get_or, length, slice_get}
use Rattle.std.{proofs.lemmas.List.{drop_all, drop_more}, specs.List.flat_map}
use Rattle.final_queries.specs.declared.table.Table.{Table}
use Rattle.query_tables.specs.Tables.{table_text_at}
use Rattle.table_printer.specs.TableText.{table_text}
use Rattle.marple_base.proofs.Pieces.{all_waits, on_err, part_broke, part_more}
use Rattle.query_run.proofs.numbered.write_numbered.Goals as goal

-- the text of the next number's table, and then those after it
next : (tables : List Table) (prints : List ℕ) (i number : ℕ) (t : Table) → i < length prints → number ≡ get_or prints i 0
    → slice_get tables number ≡ Some t
    → flat_map (table_text_at tables) (drop i prints) ≡ table_text t ++ flat_map (table_text_at tables) (drop (i + 1) prints)
next tables prints i number t within is at = rw (drop_more prints i 0 within, ← is, at) refl

pub loop-number-init : goal.loop-number-init
loop-number-init g c = record {
  written = all_waits (g.O.Sink.taken c.args.out.now) (c.args.text.now ++ flat_map (table_text_at c.args.tables.now) c.args.prints.now);
  out_later = omega arith;
}

pub returns-in_err-write_table-clause-err : goal.returns-in_err-write_table-clause-err
returns-in_err-write_table-clause-err g c =
    let split = next c.args.tables.now c.args.prints.now c.loop-number.number-index _ _ c.loop-number-test.true c.from.ensures
    c.get.ensures in
    on_err c.from_residual.result _ (part_broke _ _ _ c.loop-number.text _ _ _ (rw split at c.loop-number.invariant.written)
    c.in_err-write_table.ensures.err)

pub loop-number-preserved : goal.loop-number-preserved
loop-number-preserved g c =
    let split = next c.args.tables.now c.args.prints.now c.loop-number.number-index _ _ c.loop-number-test.true c.from.ensures
    c.get.ensures in
    record {
      written = part_more _ _ _ _ _ _ _ _ (rw split at c.loop-number.invariant.written) c.in_ok-write_table.ensures.ok;
      out_later = omega (arith, c.loop-number.invariant.out_later, c.write_table.ensures.out_later);
    }

pub returns-clause-ok : goal.returns-clause-ok
returns-clause-ok g c =
    rw (drop_all c.loop-number.number-index c.args.prints.now c.loop-number-test.false, append-nil) at c.loop-number.invariant.written
