-- The use that a front takes is the packet event of its lane, and the store stays as it was.
use Rattle.std.proofs.Common.{◌≡◌, ◌+◌, ◌≤◌, length, sym, ◌∙◌, subst, lit<}
use Rattle.epoch_model.specs.Driving.{event_of}
use Rattle.stage_plan.specs.{Planned.wiring_at, Registers.taken_at}
use Rattle.switch_core.specs.{FrontEvents.with_store, PlanLanes.lane_cost}
use Rattle.network.{specs.{Groups.GroupView, Costs.lane_in, Events.{GroupMakesAll, with_lane}}, proofs.MakeSteps.all_made}
use Rattle.network.proofs.OneFront.{group_of, front_found, front_shares, front_is, front_room}
use Rattle.network.proofs.group.Group.packet.Goals as goal

pub take_use-requires : goal.take_use-requires
take_use-requires g c =
    let f = front_found c.self.view_is c.requires.switch c.index_mut-front.ensures.value in
    let wiring = wiring_at c.args.plan.now c.args.group in
    let share = front_shares f (length wiring.args) c.requires.shares in
    let keys = subst (λ (v : GroupView). v.store.key_words ≡ length wiring.keys) (sym c.self.view_is) c.requires.keys in (
      lit< tt,
      (
        c.requires.group,
        (
          c.requires.registers,
          (front_room f c.requires.ready, (sym keys ∙ share.fits.key, (sym share.args, (c.requires.key_room, c.requires.args_room)))),
        ),
      ),
    )

pub returns-clause-makes : goal.returns-clause-makes
returns-clause-makes g c =
    let f = front_found c.self.view_is c.requires.switch c.index_mut-front.ensures.value in
    let view = group_of c.self.inside in
    let wiring = wiring_at c.args.plan.now c.args.group in
    let events = event_of (taken_at wiring c.args.registers.now) in
    let lane = with_store c.take_use.new.front view.store in
    subst (λ v. GroupMakesAll g.row.WAYS c.args.at events v (with_lane c.args.at lane view)) c.self.view_is
    (all_made g.row.WAYS c.args.at events view c.index_mut-front.result.now lane f.here
    (front_shares f (length wiring.args) c.requires.shares).alike (c.take_use.ensures.carries view.store))

pub returns-clause-cost : goal.returns-clause-cost
returns-clause-cost g c x e = subst (λ y. c.take_use.new.steps ≤ c.args.steps.now + lane_cost g.row.WAYS (lane_in c.args.self.now y))
    (front_is (front_found c.self.view_is c.requires.switch c.index_mut-front.ensures.value) e)
    (c.take_use.ensures.cost c.args.self.now.store)
