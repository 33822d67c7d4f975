use Rattle.std.{proofs.Common.{◌<◌, sym, ap, ◌∙◌, subst, lit<}, specs.List.list_all}
use Rattle.network.specs.{Events.is_ready_at, Groups.AreGroups, Networks.NetworkView}
use Rattle.network.proofs.network.Network.ready.Goals as goal

pub all_ready-requires : goal.all_ready-requires
all_ready-requires g c =
    let p = c.self.inside in
    let within = subst (λ (v : NetworkView). c.args.at < v.switches) (sym c.self.view_is) c.requires in
    (lit< tt, (p.plan, p.switches, within, subst (AreGroups p.plan p.switches) (sym c.deref.ensures.value) c.self.invariant.0.groups))

pub returns : goal.returns
returns g c =
    let test = is_ready_at c.args.at in
    c.all_ready.ensures ∙ (ap (list_all test) c.deref.ensures.value ∙ ap (λ (v : NetworkView). list_all test v.groups) c.self.view_is)
