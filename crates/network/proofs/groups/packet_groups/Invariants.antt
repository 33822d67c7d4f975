-- The groupbys so far had their events, the others are untouched, and no store changed.
use Rattle.std.{proofs.Common.{◌≡◌, ◌≤◌, ◌+◌, length, take}, specs.Prelude.sum_by}
use Rattle.epoch_model.specs.Driving.{event_of}
use Rattle.stage_plan.specs.{Planned.wiring_at, Registers.taken_at}
use Rattle.switch_core.proofs.SideBySide.{Done, Untouched}
use Rattle.network.specs.{Groups.GroupView, Events.GroupMakesAll, Costs.group_cost}
use Rattle.network.proofs.groups.packet_groups.Given as goal

-- the groupbys so far had their events
abbrev pub invariant-loop-i : goal.invariant-loop-i
invariant-loop-i g l = record {
  makes : Done (λ n. GroupMakesAll g.row.WAYS l.at (event_of (taken_at (wiring_at l.plan n) l.registers))) l.i l.initial.groups l.groups;
  stores : Done (λ n (a b : GroupView). b.store ≡ a.store) l.i l.initial.groups l.groups;
  same : Untouched l.i l.initial.groups l.groups;
  later : l.initial.steps ≤ l.steps;
  cost : l.steps ≤ l.initial.steps + sum_by (group_cost g.row.WAYS l.at) (take l.i l.initial.groups);
  key : length l.key ≡ length l.initial.key;
  args : length l.args ≡ length l.initial.args;
}
