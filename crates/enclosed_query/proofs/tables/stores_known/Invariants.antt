use Rattle.std.{proofs.Common.{◌≡◌, ℕ, ◌<◌, Some}, specs.Prelude.slice_get}
use Rattle.switch_core.specs.PlanLanes.{LaneView}
use Rattle.enclosed_query.specs.AfterEvents.{HasStoredRows}
use Rattle.enclosed_query.proofs.tables.stores_known.Given as goal

-- so it is with the lanes so far
abbrev pub invariant-loop-i : goal.invariant-loop-i
invariant-loop-i g l = (n : ℕ) (lane : LaneView) → n < l.i → slice_get l.pipeline.lanes n ≡ Some lane → HasStoredRows lane
