use Rattle.std.{proofs.Common.{◌≡◌, true, take}, specs.List.list_all}
use Rattle.switch_core.specs.Closing.{is_drained}
use Rattle.switch_core.proofs.lanes.all_drained.Given as goal

-- the same of the lanes so far
abbrev pub invariant-loop-lane : goal.invariant-loop-lane
invariant-loop-lane g l = list_all (λ lane. is_drained lane.cache lane.pipe) (take l.lane-index l.lanes) ≡ true
