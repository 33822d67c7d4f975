use Rattle.std.proofs.Common.{length, sym, ap, ◌∙◌}
use Rattle.switch_core.proofs.SideBySide.{each_long}
use Rattle.network.specs.Networks.{NetworkView}
use Rattle.network.proofs.network.Network.lanes.Goals as goal

pub returns : goal.returns
returns g c =
    let p = c.self.inside in
    c.groups.ensures ∙ (sym (each_long _ 0 p.groups.items p.plan.groups c.self.invariant.0.groups)
    ∙ ap (λ (v : NetworkView). length v.groups) c.self.view_is)
