-- The lane makes the merge, and the others stay; out of memory, all of them do.
use Rattle.std.{proofs.{Common.{◌≡◌, ◌<◌, true, length, set, sym, ap, ◌∙◌, subst}, lemmas.Bool.lt-ltb}}
use Rattle.epoch_model.specs.Machine.{Merge}
use Rattle.switch_core.{specs.PlanLanes.{AtLane, lane_is_ready}, proofs.LaneFacts.{either_way, got_set, on_err, on_ok}}
use Rattle.switch_core.proofs.{OneLane.{IsLane, event_made, lane_found, lane_is, lanes_same, view_of}, PipelineSteps.AreKeptLanes}
use Rattle.switch_core.proofs.SideBySide.{got_below, same_some}
use Rattle.switch_core.proofs.pipeline.Pipeline.merge.Goals as goal
use Rattle.switch_core.proofs.pipeline.Pipeline.merge.Goals.{After-index_mut-lane}

lane : (g : _) (c : After-index_mut-lane g) → IsLane (view_of c.self.inside) c.args.self.now c.args.lane c.index_mut-lane.result.now
lane g c = lane_found c.self.invariant.lanes c.self.invariant.made c.self.view_is c.requires c.index_mut-lane.ensures.value

pub invariant_of-self : goal.invariant_of-self
invariant_of-self g c =
    let l = lane g (goal.at.invariant_of-self g c).After-index_mut-lane in
    let was = c.self.invariant in
    let new = c.merge.new.self in
    let p = view_of c.self.inside in
    let kept : AreKeptLanes p.entries p.plan p.buckets (set p.lanes c.args.lane new) =
    either_way _ _ _ c.merge.result c.merge.ensures.stands c.merge.ensures.err
    (λ made. (event_made l g.row.WAYS Merge new c.merge.ensures.kind made).kept)
    (λ same. subst (AreKeptLanes p.entries p.plan p.buckets)
    (sym (lanes_same l new c.merge.ensures.kind c.merge.ensures.cache same)) l.kept) in
    record { lanes = kept.lanes; made = kept.made; rooms = was.rooms; few_ways = was.few_ways }

pub returns-clause-makes : goal.returns-clause-makes
returns-clause-makes g c =
    let l = lane g (goal.at.returns-clause-makes g c).After-index_mut-lane in
    on_ok _ _ c.merge.result
    (λ made. rw (← c.self.view_is) (event_made l g.row.WAYS Merge c.merge.new.self c.merge.ensures.kind made).makes) c.merge.ensures.stands

pub returns-clause-ready : goal.returns-clause-ready
returns-clause-ready g c =
    let l = lane g (goal.at.returns-clause-ready g c).After-index_mut-lane in
    let lanes = c.self.inside.lanes.items in
    let new = c.merge.new.self in
    let there = got_set lanes c.args.lane new (got_below lanes c.args.lane _ l.here) in
    on_ok (length new.pipe.records < new.pipe.places) (AtLane (λ x. lane_is_ready x ≡ true) (set lanes c.args.lane new) c.args.lane)
    c.merge.result
    (λ room x e. ap lane_is_ready (same_some x new (sym e ∙ there)) ∙ lt-ltb (length new.pipe.records) new.pipe.places room)
    c.merge.ensures.ready

pub returns-clause-empty : goal.returns-clause-empty
returns-clause-empty g c x e =
    let is = ap (λ v. length v.pipe.records) (lane_is (lane g (goal.at.returns-clause-empty g c).After-index_mut-lane) e) in
    let empty = c.merge.ensures.empty in
    (λ r. sym is ∙ empty.0 r, λ n. empty.1 (is ∙ n))

pub returns-clause-err : goal.returns-clause-err
returns-clause-err g c =
    let l = lane g (goal.at.returns-clause-err g c).After-index_mut-lane in
    let p = view_of c.self.inside in
    on_err _ _ c.merge.result
    (λ same. ap (λ lanes. record p { lanes = lanes }) (lanes_same l c.merge.new.self c.merge.ensures.kind c.merge.ensures.cache same)
    ∙ c.self.view_is) c.merge.ensures.err

pub returns-clause-cost : goal.returns-clause-cost
returns-clause-cost g c x e =
    rw (lane_is (lane g (goal.at.returns-clause-cost g c).After-index_mut-lane) e) at c.merge.ensures.cost
