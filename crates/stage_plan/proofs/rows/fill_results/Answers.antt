-- Each operation reads only registers that are filled, so later results change none of those before.
use Rattle.std.proofs.{Common.{arith, ◌∙◌}, lemmas.{List.take-set-le, Option.slice_get_within}}
use Rattle.stage_plan.proofs.Runs.{reads_left, reads_right, results_more}
use Rattle.marple_base.specs.declared.field.TheConstants.{FIELDS}
use Rattle.stage_plan.proofs.rows.fill_results.Goals as goal

pub result_in-requires-clause-left : goal.result_in-requires-clause-left
result_in-requires-clause-left g c = reads_left _ c.loop-at.at _ _ c.requires.sound c.loop-at-test.true (omega arith)

pub result_in-requires-clause-right : goal.result_in-requires-clause-right
result_in-requires-clause-right g c = reads_right _ c.loop-at.at _ _ c.requires.sound c.loop-at-test.true (omega arith)

pub loop-at-preserved : goal.loop-at-preserved
loop-at-preserved g c = record {
  fields = take-set-le FIELDS c.loop-at.registers _ _ (omega arith) ∙ c.loop-at.invariant.fields;
  results = results_more _ c.loop-at.registers c.loop-at.at _ _ c.requires.sound c.loop-at-test.true (omega arith)
      c.loop-at.invariant.results c.result_in.ensures;
}

pub returns-clause-results : goal.returns-clause-results
returns-clause-results g c = λ i one found. c.loop-at.invariant.results i one (omega (arith, slice_get_within c.args.ops.now i one found))
    found
