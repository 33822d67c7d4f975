use Rattle.std.proofs.Common.{◌≡◌, List, map, take}
use Rattle.epoch_model.specs.Machine.{Machine}
use Rattle.switch_core.specs.{Rows.Each, Pipelines.tables_of, PlanLanes.{StandsFor, folding_at, stored_tables}}
use Rattle.switch_core.proofs.tables.lane_tables.Given as goal

-- the tables of the lanes so far
abbrev pub invariant-loop-i : goal.invariant-loop-i
invariant-loop-i g l = record {
  stored : l.tables ≡ take l.i (stored_tables l.plan.groups l.lanes);
  closed : (machines : List Machine) → Each StandsFor l.lanes machines
      → l.tables ≡ take l.i (tables_of l.plan.groups (map folding_at l.lanes) machines);
}
