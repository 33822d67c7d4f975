-- The lane makes the eviction, and the others stay.
use Rattle.std.proofs.{Common.{◌≡◌, true, length, sym, subst, lit<}, lemmas.Bool.ltb-true}
use Rattle.epoch_model.specs.Machine.{Evict}
use Rattle.switch_core.specs.PlanLanes.{AtLane, PipelineView, lane_is_ready}
use Rattle.switch_core.proofs.OneLane.{IsLane, event_made, lane_buckets, lane_found, lane_is, view_of}
use Rattle.switch_core.proofs.pipeline.Pipeline.evict.Goals as goal
use Rattle.switch_core.proofs.pipeline.Pipeline.evict.Goals.{After-index_mut-lane}

lane : (g : _) (c : After-index_mut-lane g) → IsLane (view_of c.self.inside) c.args.self.now c.args.lane c.index_mut-lane.result.now
lane g c = lane_found c.self.invariant.lanes c.self.invariant.made c.self.view_is c.requires.lane c.index_mut-lane.ensures.value

pub evict-requires : goal.evict-requires
evict-requires g c =
    let l = lane g (goal.at.evict-requires g c).After-index_mut-lane in
    let one = c.index_mut-lane.result.now in
    let ready = subst (λ (v : PipelineView). AtLane (λ x. lane_is_ready x ≡ true) v.lanes c.args.lane) (sym c.self.view_is)
    c.requires.ready in
    (lit< tt, (ltb-true (length one.pipe.records) one.pipe.places (ready one l.here), rw (lane_buckets l) c.requires.range))

pub invariant_of-self : goal.invariant_of-self
invariant_of-self g c =
    let l = lane g (goal.at.invariant_of-self g c).After-index_mut-lane in
    let kept = (event_made l g.row.WAYS (Evict c.args.bucket) c.evict.new.self c.evict.ensures.kind c.evict.ensures.stands).kept in
    record { lanes = kept.lanes; made = kept.made; rooms = c.self.invariant.rooms; few_ways = c.self.invariant.few_ways }

pub returns-clause-makes : goal.returns-clause-makes
returns-clause-makes g c =
    let l = lane g (goal.at.returns-clause-makes g c).After-index_mut-lane in
    rw (← c.self.view_is)
    (event_made l g.row.WAYS (Evict c.args.bucket) c.evict.new.self c.evict.ensures.kind c.evict.ensures.stands).makes

pub returns-clause-some : goal.returns-clause-some
returns-clause-some g c x e =
    rw (lane_is (lane g (goal.at.returns-clause-some g c).After-index_mut-lane) e) at c.evict.ensures.some

pub returns-clause-cost : goal.returns-clause-cost
returns-clause-cost g c x e =
    rw (lane_is (lane g (goal.at.returns-clause-cost g c).After-index_mut-lane) e) at c.evict.ensures.cost
