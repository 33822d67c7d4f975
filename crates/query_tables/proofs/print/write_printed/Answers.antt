-- Each print takes its table's text off the front of the texts left, and a failure leaves some first bytes.
use Rattle.std.proofs.Common.{◌++◌, arith, append-nil}
use Rattle.std.{proofs.lemmas.List.{drop_all}, specs.List.flat_map}
use Rattle.query_lang.specs.TypedFinals.{table_number}
use Rattle.query_tables.{specs.Tables.table_text_at, proofs.PrintedTables.next_table}
use Rattle.marple_base.proofs.Pieces.{all_waits, on_err, part_broke, part_more}
use Rattle.query_tables.proofs.print.write_printed.Goals as goal

pub loop-one-init : goal.loop-one-init
loop-one-init g c = record {
  written = all_waits (g.O.Sink.taken c.args.out.now) (c.args.text.now
      ++ flat_map (λ one. table_text_at c.args.tables.now (table_number c.args.groups one)) c.args.prints.now);
  out_later = omega arith;
}

pub returns-in_err-write_table-clause-err : goal.returns-in_err-write_table-clause-err
returns-in_err-write_table-clause-err g c =
    let split = next_table (table_number c.args.groups) c.args.tables.now c.args.prints.now c.loop-one.one-index _ _ _
    c.loop-one-test.true c.table_number.ensures c.get.ensures in
    on_err c.from_residual.result _ (part_broke _ _ _ c.loop-one.text _ _ _ (rw split at c.loop-one.invariant.written)
    c.in_err-write_table.ensures.err)

pub loop-one-preserved : goal.loop-one-preserved
loop-one-preserved g c =
    let split = next_table (table_number c.args.groups) c.args.tables.now c.args.prints.now c.loop-one.one-index _ _ _
    c.loop-one-test.true c.table_number.ensures c.get.ensures in
    record {
      written = part_more _ _ _ _ _ _ _ _ (rw split at c.loop-one.invariant.written) c.in_ok-write_table.ensures.ok;
      out_later = omega (arith, c.loop-one.invariant.out_later, c.write_table.ensures.out_later);
    }

pub returns-clause-ok : goal.returns-clause-ok
returns-clause-ok g c =
    rw (drop_all c.loop-one.one-index c.args.prints.now c.loop-one-test.false, append-nil) at c.loop-one.invariant.written
