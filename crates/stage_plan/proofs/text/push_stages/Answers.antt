use Rattle.std.{proofs.Common.{◌++◌, ◌+◌, ◌∙◌, ap, append_assoc}, specs.Prelude.codes}
use Rattle.stage_plan.{specs.Shape.{counted, line, stage_lines, sizes_of}, proofs.{Depths.stages, Texts.stage_more}}
use Rattle.stage_plan.proofs.text.push_stages.Goals as goal

pub loop-before-preserved : goal.loop-before-preserved
loop-before-preserved c = c.in_ok-push_stage.ensures
    ∙ ap (λ t. t ++ line (counted (counted (codes "stage") (c.loop-before.before + 1)) c.in_stage.result)) c.loop-before.invariant
    ∙ append_assoc c.args.text.now (stage_lines 1 (sizes_of c.loop-before.before (stages c.args.ops.now)))
    (line (counted (counted (codes "stage") (c.loop-before.before + 1)) c.in_stage.result))
    ∙ ap (λ l. c.args.text.now ++ l) (stage_more c.args.ops.now c.loop-before.before _ c.in_stage.ensures)
