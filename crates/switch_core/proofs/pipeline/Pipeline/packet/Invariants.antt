-- The lanes before this one made the packet's events within their cost, and the others are untouched.
use Rattle.std.{proofs.Common.{◌≡◌, ◌≤◌, ◌+◌, length, take}, specs.Prelude.sum_by}
use Rattle.epoch_model.specs.Driving.{event_of}
use Rattle.stage_plan.specs.{Planned.wiring_at, Registers.taken_at}
use Rattle.switch_core.{specs.PlanLanes.{LaneMakes, lane_cost}, proofs.SideBySide.{Done, Untouched}}
use Rattle.switch_core.proofs.pipeline.Pipeline.packet.Given as goal

-- the lanes so far made their events
abbrev pub invariant-loop-i : goal.invariant-loop-i
invariant-loop-i g l = record {
  makes : Done (λ n. LaneMakes g.row.WAYS (event_of (taken_at (wiring_at l.fn.self.plan n) l.registers))) l.i l.initial.lanes l.lanes;
  same : Untouched l.i l.initial.lanes l.lanes;
  steps : l.initial.steps ≤ l.steps;
  cost : l.steps ≤ l.initial.steps + sum_by (lane_cost g.row.WAYS) (take l.i l.initial.lanes);
  key : length l.key ≡ length l.initial.key;
  args : length l.args ≡ length l.initial.args;
}
