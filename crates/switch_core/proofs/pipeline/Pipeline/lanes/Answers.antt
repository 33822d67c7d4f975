use Rattle.std.proofs.Common.{length, sym, ap, ◌∙◌}
use Rattle.switch_core.proofs.SideBySide.{each_long}
use Rattle.switch_core.proofs.pipeline.Pipeline.lanes.Goals as goal

pub returns : goal.returns
returns g c = c.groups.ensures ∙ (sym (each_long _ 0 c.self.inside.lanes.items c.self.inside.plan.groups c.self.invariant.lanes) ∙ ap
    (λ v. length v.lanes) c.self.view_is)
