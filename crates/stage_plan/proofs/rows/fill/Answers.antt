use Rattle.std.proofs.Common.{arith, ◌∙◌}
use Rattle.stage_plan.proofs.Runs.{filled_is_after}
use Rattle.stage_plan.proofs.rows.fill.Goals as goal

pub returns-clause-row : goal.returns-clause-row
returns-clause-row g c = filled_is_after _ _ _ c.requires.sound c.requires.words (record {
  long = omega arith;
  front = c.fill_results.ensures.fields ∙ c.fill_fields.ensures.fields;
  each = c.fill_results.ensures.results;
})
