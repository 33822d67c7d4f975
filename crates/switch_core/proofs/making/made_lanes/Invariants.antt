-- The lanes of the groupbys so far are made for them, with pipes of that many places, and stand for empty machines.
use Rattle.std.proofs.Common.{take}
use Rattle.epoch_entry.specs.contracts.any.AnyEpochsEpochKind.TheImpl.{ghosts}
use Rattle.stage_plan.specs.Planned.{wiring_at}
use Rattle.switch_core.specs.{Rows.{Each, EachFrom}, Pipelines.{IsLaneOf, empty_machines, geometry_without_refresh}}
use Rattle.switch_core.specs.PlanLanes.{HavePlaces, IsMadeFor, StandsFor}
use Rattle.switch_core.proofs.making.made_lanes.Given as goal

-- the lanes of the groupbys so far
abbrev pub invariant-loop-i : goal.invariant-loop-i
invariant-loop-i g l = record {
  lanes : EachFrom (λ n lane group. IsLaneOf l.entries l.buckets lane.cache (ghosts.sizes lane.kind) (ghosts.folding lane.kind)
      (ghosts.open_bound lane.kind) (ghosts.absorb_bound lane.kind) group (wiring_at l.plan n)) 0 l.lanes.items (take l.i l.plan.groups);
  made : Each IsMadeFor l.lanes.items (take l.i l.plan.groups);
  pipe_places : HavePlaces l.pipe_records l.lanes.items;
  stands : Each StandsFor l.lanes.items (empty_machines (geometry_without_refresh g.row.WAYS l.buckets) (take l.i l.plan.groups));
}
