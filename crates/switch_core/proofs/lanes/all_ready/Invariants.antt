use Rattle.std.{proofs.Common.{◌≡◌, true, take}, specs.List.list_all}
use Rattle.switch_core.specs.PlanLanes.{lane_is_ready}
use Rattle.switch_core.proofs.lanes.all_ready.Given as goal

-- the same of the lanes so far
abbrev pub invariant-loop-lane : goal.invariant-loop-lane
invariant-loop-lane g l = list_all lane_is_ready (take l.lane-index l.lanes) ≡ true
