-- Out of memory the groupbys come back as they were, and else the network has one switch more and the same events.
use Rattle.std.proofs.Common.{◌≡◌, ◌+◌, ◌<◌, ◌++◌, lit<, length, take, drop, sym, ap, ◌∙◌, subst, refl}
use Rattle.switch_core.{specs.Rows.Each, proofs.LaneFacts.whole_written}
use Rattle.network.{specs.{Groups.{AreGroups, GroupGrows}, Networks.{NetworkGrows, NetworkView}}, proofs.MakeSteps.if_err}
use Rattle.network.proofs.{NetworkSteps.{grown_network, net_of, ran_whole, same_network, with_groups}, OneLane.view_of}
use Rattle.network.proofs.Representing.{grown_stands}
use Rattle.network.proofs.network.Network.add_switch.Goals as goal
use Rattle.network.proofs.network.Network.add_switch.Goals.{In_ok-add_switch, In_err-add_switch}

pub add_switch-requires : goal.add_switch-requires
add_switch-requires g c =
    let p = c.self.inside in
    let is = c.self.invariant.0 in
    (lit< tt, (is.sizes, subst (AreGroups p.plan p.switches) (sym c.deref_mut.ensures.value) is.groups))

-- out of memory, the groupbys come back as they were
same : (g : _) (c : In_err-add_switch g) → (let groups = c.self.inside.groups in let new = c.add_switch.new.groups in
    take groups.len (new ++ drop (length new) groups.items) ≡ groups.items)
same g c =
    let groups = c.self.inside.groups in
    let new = c.add_switch.new.groups in
    whole_written new (drop (length new) groups.items) groups.len (c.add_switch.auto.groups ∙ c.deref_mut.ensures.len)
    ∙ (c.in_err-add_switch.ensures.err ∙ c.deref_mut.ensures.value)

grown : (g : _) (c : In_ok-add_switch g) → (let p = c.self.inside in let new = c.add_switch.new.groups in
    Each (GroupGrows g.row.WAYS p.buckets p.pipe_records) p.groups.items (take p.groups.len (new ++ drop (length new) p.groups.items)))
grown g c =
    let p = c.self.inside in
    ran_whole (Each (GroupGrows g.row.WAYS p.buckets p.pipe_records)) _ _ c.add_switch.new.groups
    p.groups.len c.deref_mut.ensures.value (c.add_switch.auto.groups ∙ c.deref_mut.ensures.len) c.in_ok-add_switch.ensures.grow

pub invariant_of-self : goal.invariant_of-self
invariant_of-self g c = (
  same_network _ _ _ (same g (goal.at.invariant_of-self g c).In_err-add_switch) c.self.invariant.0,
  c.self.invariant.1,
)

pub invariant_of-self-2 : goal.invariant_of-self-2
invariant_of-self-2 g c =
    let p = c.self.inside in
    let new = c.add_switch.new.groups in
    let are = subst (AreGroups p.plan (p.switches + 1)) (sym (whole_written new (drop (length new) p.groups.items) p.groups.len
    (c.add_switch.auto.groups ∙ c.deref_mut.ensures.len)))
    (c.in_ok-add_switch.ensures.are p.switches (subst (AreGroups p.plan p.switches) (sym c.deref_mut.ensures.value)
    c.self.invariant.0.groups)) in (
      grown_network _ _ _ (subst (λ (v : NetworkView). v.switches < 64) (sym c.self.view_is) c.requires) are
          (grown g (goal.at.invariant_of-self-2 g c).In_ok-add_switch) c.self.invariant.0,
      c.self.invariant.1,
    )

pub returns-clause-grows : goal.returns-clause-grows
returns-clause-grows g c =
    let p = c.self.inside in
    let new = c.add_switch.new.groups in
    let after = net_of p.plan p.buckets p.pipe_records (p.switches + 1) (take p.groups.len (new ++ drop (length new) p.groups.items)) in
    subst (λ v. NetworkGrows g.row.WAYS v after) c.self.view_is (record {
      groups = grown g (goal.at.returns-clause-grows g c).In_ok-add_switch;
      switches = refl;
      keeps = record { plan = refl; buckets = refl; pipe_records = refl };
    })

pub returns-clause-stands : goal.returns-clause-stands
returns-clause-stands g c events stand = grown_stands _ _ _ events (returns-clause-grows g c) stand

pub returns-in_err-add_switch-clause-err : goal.returns-in_err-add_switch-clause-err
returns-in_err-add_switch-clause-err g c =
    let kept = same g (goal.at.returns-in_err-add_switch-clause-err g c).In_err-add_switch in
    if_err _ c.from_residual.result (ap (with_groups (view_of c.self.inside)) kept ∙ c.self.view_is)
