-- The first lane whose pipe is full tells the answer, and where there is none, every pipe has room.
use Rattle.std.proofs.Common.{◌<◌, Some, length, sym, ap, ◌∙◌}
use Rattle.switch_core.{specs.PlanLanes.lane_is_ready, proofs.{SideBySide.got_here, LaneFacts.{all_next, all_fails}}}
use Rattle.switch_core.proofs.lanes.all_ready.Goals as goal

pub returns-then-not-ready : goal.returns-then-not-ready
returns-then-not-ready g c =
    let lanes = c.args.lanes.now in
    let i = c.loop-lane.lane-index in
    let below : i < length lanes = c.loop-lane-test.true in
    sym (all_fails lane_is_ready lanes i c.lane-item.result
    (got_here lanes i c.lane-item.result below ∙ ap (λ l. Some l) (sym c.lane-item.is)) (sym c.ready.ensures ∙ c.if-not-ready.true))

pub loop-lane-preserved : goal.loop-lane-preserved
loop-lane-preserved g c =
    let lanes = c.args.lanes.now in
    let i = c.loop-lane.lane-index in
    let below : i < length lanes = c.loop-lane-test.true in
    all_next lane_is_ready lanes i c.lane-item.result c.loop-lane.invariant
    (got_here lanes i c.lane-item.result below ∙ ap (λ l. Some l) (sym c.lane-item.is)) (sym c.ready.ensures ∙ c.if-not-ready.false)
