use Rattle.std.{proofs.Common.{◌≤◌, ◌<◌, ◌+◌, ℕ, take}, specs.Prelude.sum_by}
use Rattle.switch_core.specs.{PlanLanes.{AtLane, LaneMakes, lane_upkeep_cost, upkeeps_at}, Upkeeps.IsKept}
use Rattle.switch_core.proofs.SideBySide.{Done, Untouched}
use Rattle.switch_core.proofs.lanes.keep_lanes.Given as goal

-- the lanes so far made their events, and the others are unchanged
abbrev pub invariant-loop-i : goal.invariant-loop-i
invariant-loop-i g l = record {
  makes : Done (λ n. LaneMakes g.row.WAYS (upkeeps_at l.upkeep l.initial.lanes n)) l.i l.initial.lanes l.lanes;
  same : Untouched l.i l.initial.lanes l.lanes;
  left : (n : ℕ) → n < l.i → AtLane (λ lane. IsKept l.upkeep lane.cache lane.pipe) l.lanes n;
  later : l.initial.steps ≤ l.steps;
  cost : l.steps ≤ l.initial.steps + sum_by (lane_upkeep_cost l.upkeep) (take l.i l.initial.lanes);
}
