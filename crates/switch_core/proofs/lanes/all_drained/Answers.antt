-- The first lane with an epoch in its cache or its pipe tells the answer, and where there is none, all are drained.
use Rattle.std.proofs.Common.{◌<◌, Some, length, sym, ap, ◌∙◌}
use Rattle.switch_core.{specs.Closing.is_drained, proofs.{SideBySide.got_here, LaneFacts.{all_next, all_fails}}}
use Rattle.switch_core.proofs.lanes.all_drained.Goals as goal

pub returns-then-not-drained : goal.returns-then-not-drained
returns-then-not-drained g c =
    let lanes = c.args.lanes.now in
    let i = c.loop-lane.lane-index in
    let below : i < length lanes = c.loop-lane-test.true in
    sym (all_fails (λ lane. is_drained lane.cache lane.pipe) lanes i c.lane-item.result
    (got_here lanes i c.lane-item.result below ∙ ap (λ l. Some l) (sym c.lane-item.is))
    (sym c.drained.ensures.value ∙ c.if-not-drained.true))

pub loop-lane-preserved : goal.loop-lane-preserved
loop-lane-preserved g c =
    let lanes = c.args.lanes.now in
    let i = c.loop-lane.lane-index in
    let below : i < length lanes = c.loop-lane-test.true in
    all_next (λ lane. is_drained lane.cache lane.pipe) lanes i c.lane-item.result c.loop-lane.invariant
    (got_here lanes i c.lane-item.result below ∙ ap (λ l. Some l) (sym c.lane-item.is))
    (sym c.drained.ensures.value ∙ c.if-not-drained.false)
