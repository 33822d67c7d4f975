-- A merge of a front into the shared store is one of its lane, after which its pipe has room.
use Rattle.std.proofs.Common.{lit<, ◌+◌, ◌≤◌, length, sym, ap, ◌∙◌, subst}
use Rattle.epoch_model.specs.Machine.{Merge}
use Rattle.switch_core.specs.{FrontEvents.with_store, PlanLanes.lane_merge_cost}
use Rattle.switch_core.specs.declared.upkeep.Upkeep.TheVariants as due
use Rattle.switch_core.proofs.LaneFacts.{on_err, on_ok}
use Rattle.network.{specs.{Costs.{group_merge_cost, lane_in}, Events.{GroupMakes, with_lane}}, proofs.CostSteps.upkeep_within}
use Rattle.network.proofs.MakeSteps.{one_makes, ready_at}
use Rattle.network.proofs.OneFront.{group_of, front_found, front_shares, front_is, front_now, front_kept}
use Rattle.network.proofs.group.Group.merge.Goals as goal

pub merge_into-requires : goal.merge_into-requires
merge_into-requires g c =
    let f = front_found c.self.view_is c.requires.switch c.index_mut-front.ensures.value in
    (lit< tt, (front_shares f c.requires.shares.0 c.requires.shares.1).fits)

pub returns-clause-makes : goal.returns-clause-makes
returns-clause-makes g c =
    let f = front_found c.self.view_is c.requires.switch c.index_mut-front.ensures.value in
    let at = c.args.at in
    let view = group_of c.self.inside in
    let front = c.index_mut-front.result.now in
    let lane = with_store c.merge_into.new.self c.merge_into.new.store in
    on_ok _
    _ c.merge_into.result
    (λ made. subst (λ v. GroupMakes g.row.WAYS at Merge v (with_lane at lane view)) c.self.view_is
    (one_makes g.row.WAYS at Merge view front lane f.here (front_shares f c.requires.shares.0 c.requires.shares.1).alike made))
    c.merge_into.ensures.carries

pub returns-clause-ready : goal.returns-clause-ready
returns-clause-ready g c =
    let f = front_found c.self.view_is c.requires.switch c.index_mut-front.ensures.value in
    let new = c.merge_into.new.self in
    let after = with_lane c.args.at (with_store new c.merge_into.new.store) (group_of c.self.inside) in
    on_ok _ _ c.merge_into.result
    (ready_at c.args.at after new (front_now f new)) c.merge_into.ensures.ready

pub returns-clause-empty : goal.returns-clause-empty
returns-clause-empty g c x e =
    let f = front_found c.self.view_is c.requires.switch c.index_mut-front.ensures.value in
    let records = ap (λ v. length v.pipe.records) (front_is f e) in
    let empty = c.merge_into.ensures.empty in
    (λ r. sym records ∙ empty.0 r, λ n. empty.1 (records ∙ n))

pub returns-clause-same : goal.returns-clause-same
returns-clause-same g c is = front_kept (front_found c.self.view_is c.requires.switch c.index_mut-front.ensures.value) c.merge_into.new.self
    c.merge_into.new.store (c.merge_into.ensures.same is)

pub returns-clause-err : goal.returns-clause-err
returns-clause-err g c =
    let f = front_found c.self.view_is c.requires.switch c.index_mut-front.ensures.value in
    let new = c.merge_into.new.self in
    let store = c.merge_into.new.store in
    on_err _
    _ c.merge_into.result (front_kept f new store)
    c.merge_into.ensures.err

pub returns-clause-cost : goal.returns-clause-cost
returns-clause-cost g c x e = subst (λ y. c.merge_into.new.steps ≤ c.args.steps.now + lane_merge_cost (lane_in c.args.self.now y))
    (front_is (front_found c.self.view_is c.requires.switch c.index_mut-front.ensures.value) e) c.merge_into.ensures.cost

pub returns-clause-most : goal.returns-clause-most
returns-clause-most g c =
    let f = front_found c.self.view_is c.requires.switch c.index_mut-front.ensures.value in
    subst (λ v. c.merge_into.new.steps ≤ c.args.steps.now + group_merge_cost c.args.at v) c.self.view_is
    (upkeep_within due.Lag c.args.at c.args.steps.now c.merge_into.new.steps (group_of c.self.inside) c.index_mut-front.result.now f.here
    c.merge_into.ensures.cost)
