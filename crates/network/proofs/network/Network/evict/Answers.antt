-- A lane's eviction is one event of the network, made at one switch of one groupby, and the others stay.
use Rattle.std.proofs.Common.{◌≡◌, ◌<◌, true, set, sym, subst, lit<}
use Rattle.epoch_model.specs.Machine.{Evict}
use Rattle.network.{specs.{Events.{AtGroup, StoresStay, is_ready_at}, Networks.NetworkView, Running.Evicts}, proofs.MakeSteps.stores_one}
use Rattle.network.proofs.OneLane.{lane_found, lane_switch, lane_front, groups_made, network_made, others_made, event_made}
use Rattle.network.proofs.network.Network.evict.Goals as goal

pub evict-requires : goal.evict-requires
evict-requires g c =
    let l = lane_found c.self.invariant.0 c.self.view_is c.requires.lane c.index_mut-group.ensures.value in
    let back = sym c.self.view_is in
    let ready = subst (λ (v : NetworkView). AtGroup (λ group. is_ready_at c.args.at group ≡ true) v.groups c.args.lane) back
    c.requires.ready in
    let range = subst (λ (v : NetworkView). c.args.bucket < v.buckets) back c.requires.range in
    let wide = l.network.wide c.args.lane c.index_mut-group.result.now l.here c.args.at in (
      lit< tt,
      (
        lane_switch l c.requires.switch,
        (ready c.index_mut-group.result.now l.here, (λ front f. subst (λ b. c.args.bucket < b) (sym (wide front f)) range)),
      ),
    )

pub invariant_of-self : goal.invariant_of-self
invariant_of-self g c =
    let l = lane_found c.self.invariant.0 c.self.view_is c.requires.lane c.index_mut-group.ensures.value in
    (network_made l c.evict.new.self c.args.at (Evict c.args.bucket) c.evict.ensures.makes, c.self.invariant.1)

pub returns-clause-makes : goal.returns-clause-makes
returns-clause-makes g c =
    let l = lane_found c.self.invariant.0 c.self.view_is c.requires.lane c.index_mut-group.ensures.value in
    event_made l c.evict.new.self (Evicts c.args.at c.args.lane c.args.bucket)
    (groups_made l c.evict.new.self c.args.at (Evict c.args.bucket) c.evict.ensures.makes)

pub returns-clause-others : goal.returns-clause-others
returns-clause-others g c =
    let l = lane_found c.self.invariant.0 c.self.view_is c.requires.lane c.index_mut-group.ensures.value in
    others_made l c.evict.new.self c.args.at (Evict c.args.bucket) c.evict.ensures.makes

pub returns-clause-stores : goal.returns-clause-stores
returns-clause-stores g c =
    let l = lane_found c.self.invariant.0 c.self.view_is c.requires.lane c.index_mut-group.ensures.value in
    let groups = c.self.inside.groups.items in
    subst (λ (v : NetworkView). StoresStay v.groups (set groups c.args.lane c.evict.new.self)) c.self.view_is
    (stores_one c.args.lane groups _ c.evict.new.self l.here c.evict.ensures.store)

pub returns-clause-some : goal.returns-clause-some
returns-clause-some g c x e front f =
    let l = lane_found c.self.invariant.0 c.self.view_is c.requires.lane c.index_mut-group.ensures.value in
    c.evict.ensures.some front (lane_front l c.args.at e f)

pub returns-clause-cost : goal.returns-clause-cost
returns-clause-cost g c x e front f =
    let l = lane_found c.self.invariant.0 c.self.view_is c.requires.lane c.index_mut-group.ensures.value in
    c.evict.ensures.cost front (lane_front l c.args.at e f)
