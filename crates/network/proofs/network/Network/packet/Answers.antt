-- The row of registers is the packet's, so the groupbys that come back made the events of that packet.
use Rattle.std.{proofs.Common.{◌≡◌, ◌+◌, ◌≤◌, ◌++◌, ℕ, List, length, take, drop, refl, ap, ◌∙◌, subst, arith}, specs.Prelude.sum_by}
use Rattle.epoch_model.specs.Driving.{event_of}
use Rattle.stage_plan.specs.{Planned.{plan_bound, registers_of, wiring_at}, Registers.taken_at, Sound.IsSoundPlan}
use Rattle.switch_core.{specs.Pipelines.packet_events, proofs.LaneFacts.whole_written}
use Rattle.network.specs.{Events.{GroupsMake, StoresStay}, Costs.group_cost, Networks.{IsNetwork, NetworkView, network_cost}}
use Rattle.network.{specs.Running.{NetworkMakes, Takes}, proofs.{CostSteps.groups_within, MakeSteps.others_stay}}
use Rattle.network.proofs.{NetworkSteps.{made_network, ran_whole, with_groups}, OneLane.view_of}
use Rattle.network.proofs.network.Network.packet.Goals as goal
use Rattle.network.proofs.network.Network.packet.Goals.{After-packet_groups}

registers_back : (g : _) (c : After-packet_groups g) → length c.row.new.registers ≡ c.self.inside.registers.len
registers_back g c = c.row.auto.registers ∙ c.deref_mut.ensures.len

groups_back : (g : _) (c : After-packet_groups g) → length c.packet_groups.new.groups ≡ c.self.inside.groups.len
groups_back g c = c.packet_groups.auto.groups ∙ c.deref_mut-2.ensures.len

-- the groupbys that come back made the packet's events
made : (g : _) (c : After-packet_groups g) → (let p = c.self.inside in let new = c.packet_groups.new.groups in
    GroupsMake g.row.WAYS c.args.at (packet_events p.plan c.args.packet.now.words) p.groups.items
    (take p.groups.len (new ++ drop (length new) p.groups.items)))
made g c =
    let p = c.self.inside in
    let words = c.args.packet.now.words in
    let filled = c.row.new.registers in
    let before = c.deref_mut-2.result.now in
    let new = c.packet_groups.new.groups in
    let registers =
    c.deref.ensures.value
    ∙ (whole_written filled (drop (length filled) p.registers.items) p.registers.len (registers_back g c) ∙ c.row.ensures.row) in
    ran_whole (GroupsMake g.row.WAYS c.args.at (packet_events p.plan words)) _ _ new _
    c.deref_mut-2.ensures.value (groups_back g c)
    (subst (λ rs. GroupsMake g.row.WAYS c.args.at (λ n. event_of (taken_at (wiring_at p.plan n) rs)) before new) registers
    c.packet_groups.ensures.makes)

-- a lent vector that is written over is as long as before
as_long : (new old : List ℕ) (lent : List ℕ) (many : ℕ) → length new ≡ length lent → length lent ≡ many → lent ≡ old
    → length (take many (new ++ drop (length new) old)) ≡ length old
as_long new old _ many long len same = ap length (whole_written new (drop (length new) old) many (long ∙ len)) ∙ (long ∙ ap length same)

pub invariant_of-self : goal.invariant_of-self
invariant_of-self g c =
    let p = c.self.inside in
    let rooms = c.self.invariant.1 in (
      made_network g.row.WAYS c.args.at (packet_events p.plan c.args.packet.now.words) (view_of p) _
          (made g (goal.at.invariant_of-self g c).After-packet_groups) c.self.invariant.0,
      record {
        for_row = as_long c.row.new.registers p.registers.items _ p.registers.len c.row.auto.registers c.deref_mut.ensures.len
            c.deref_mut.ensures.value ∙ rooms.for_row;
        for_key = as_long c.packet_groups.new.key p.key.items _ p.key.len c.packet_groups.auto.key c.deref_mut-3.ensures.len
            c.deref_mut-3.ensures.value ∙ rooms.for_key;
        for_args = as_long c.packet_groups.new.args p.args.items _ p.args.len c.packet_groups.auto.args c.deref_mut-4.ensures.len
            c.deref_mut-4.ensures.value ∙ rooms.for_args;
      },
    )

pub returns-clause-makes : goal.returns-clause-makes
returns-clause-makes g c =
    let p = c.self.inside in
    let new = c.packet_groups.new.groups in
    subst (λ v. NetworkMakes g.row.WAYS (Takes c.args.at c.args.packet.now.words) v
    (with_groups (view_of p) (take p.groups.len (new ++ drop (length new) p.groups.items)))) c.self.view_is
    (record {
      groups = made g (goal.at.returns-clause-makes g c).After-packet_groups;
      switches = refl;
      keeps = record { plan = refl; buckets = refl; pipe_records = refl };
    })

pub returns-clause-others : goal.returns-clause-others
returns-clause-others g c =
    let net = c.args.self.now in
    others_stay g.row.WAYS c.args.at (packet_events net.plan c.args.packet.now.words) net.groups _ (returns-clause-makes g c).groups

pub returns-clause-stores : goal.returns-clause-stores
returns-clause-stores g c =
    let p = c.self.inside in
    let new = c.packet_groups.new.groups in
    subst (λ (v : NetworkView). StoresStay v.groups (take p.groups.len (new ++ drop (length new) p.groups.items))) c.self.view_is
    (ran_whole StoresStay _ _ new _
    c.deref_mut-2.ensures.value (groups_back g (goal.at.returns-clause-stores g c).After-packet_groups) c.packet_groups.ensures.stores)

after_row : (start row end registers groups : ℕ) → row ≡ start + registers → end ≤ row + groups → end ≤ start + (registers + groups)
after_row start row end registers groups r e = omega arith

under : (start end cost bound : ℕ) → end ≤ start + cost → cost ≤ bound → end ≤ start + bound
under start end cost bound e b = omega arith

pub returns-clause-cost : goal.returns-clause-cost
returns-clause-cost g c =
    let p = c.self.inside in
    let most = group_cost g.row.WAYS c.args.at in
    subst (λ v. c.packet_groups.new.steps ≤ c.args.steps.now + network_cost g.row.WAYS c.args.at v) c.self.view_is
    (after_row c.args.steps.now _ c.packet_groups.new.steps (registers_of p.plan) (sum_by most p.groups.items)
    c.row.ensures.steps
    (subst (λ xs. c.packet_groups.new.steps ≤ c.row.new.steps + sum_by most xs) c.deref_mut-2.ensures.value c.packet_groups.ensures.cost))

pub returns-clause-bound : goal.returns-clause-bound
returns-clause-bound g c =
    let net = c.args.self.now in
    let is = subst (IsNetwork g.row.WAYS) c.self.view_is c.self.invariant.0 in
    let sound = subst (λ (v : NetworkView). IsSoundPlan v.plan) c.self.view_is c.invariant.ensures in
    under c.args.steps.now c.packet_groups.new.steps (network_cost g.row.WAYS c.args.at net) (plan_bound net.plan g.row.WAYS)
    (returns-clause-cost g c)
    (groups_within g.row.WAYS c.args.at net.switches net.buckets net.plan net.groups c.depth_is_found.ensures c.entries_suit_folds.ensures
    sound c.requires.switch is.wide is.groups)
