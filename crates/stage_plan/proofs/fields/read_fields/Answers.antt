use Rattle.std.proofs.Common.{◌∙◌}
use Rattle.stage_plan.proofs.Markings.{reads_are}
use Rattle.stage_plan.proofs.fields.read_fields.Goals as goal

pub returns : goal.returns
returns c = reads_are c.args.q.now _ _ _ (c.as_slice.ensures ∙ c.in_ok-columns.ensures) c.as_slice-2.ensures c.mark_all.ensures
