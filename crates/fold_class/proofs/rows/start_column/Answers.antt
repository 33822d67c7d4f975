use Rattle.std.proofs.Common.{arith}
use Rattle.fold_class.{specs.{Rows.first_part, Stored.part_at}, proofs.RowLemmas.start_more}
use Rattle.fold_class.proofs.rows.start_column.Goals as goal

pub loop-v-preserved : goal.loop-v-preserved
loop-v-preserved g c =
    let m = g.C.Coeff in record {
      vars = start_more (first_part m.elements c.args.column c.args.history.now) c.args.origins.now c.loop-v.v _
          (part_at m.from_words m.WORDS c.loop-v.scratch) (part_at m.from_words m.WORDS c.store_part.new.words) c.first-part.result _
          c.loop-v-test.true c.first-part.ensures c.store_part.ensures.others c.store_part.ensures.here c.loop-v.invariant.vars;
      steps = omega (arith, c.loop-v.invariant.steps, c.tick.ensures);
    }
