use Rattle.std.proofs.Common.{◌≡◌, ◌≤◌, List, map, take}
use Rattle.epoch_model.specs.Machine.{Machine}
use Rattle.switch_core.specs.PlanLanes.{PipelineStands, folding_at}
use Rattle.live_view.specs.Views.{tables_seen}
use Rattle.live_view.proofs.tables.view.Given as goal

-- the tables of the lanes so far
abbrev pub invariant-loop-i : goal.invariant-loop-i
invariant-loop-i g l = record {
  tables : (machines : List Machine) → PipelineStands l.p machines → l.tables ≡ take l.i
      (tables_seen l.p.plan.groups (map folding_at l.p.lanes) machines);
  steps : l.initial.steps ≤ l.steps;
}
