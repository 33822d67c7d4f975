use Rattle.std.proofs.Common.{◌∙◌}
use Rattle.stage_plan.proofs.Texts.{text_is}
use Rattle.stage_plan.proofs.text.plan_text.Goals as goal

pub returns : goal.returns
returns c = text_is c.args.p.now c.args.ways _ _ _ _ _ _ _ _ _ _ _ _
    (c.from.ensures ∙ c.stages.ensures) (c.from-2.ensures ∙ c.operations.ensures) c.stages-2.ensures c.bound.ensures c.ops.ensures.ops
    c.all_groups.ensures
    c.new-text.ensures c.in_ok-push_line.ensures c.in_ok-push_line-2.ensures c.in_ok-push_stages.ensures c.in_ok-push_groups.ensures
    c.in_ok-push_line-3.ensures
