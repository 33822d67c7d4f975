use Rattle.std.{proofs.Common.{◌≡◌, ◌+◌, ◌≤◌, ◌<◌, ℕ, take}, specs.Prelude.sum_by}
use Rattle.network.specs.{Costs.group_upkeep_cost, Events.IsLeft, Running.{NetworkRuns, front_at, joined_below, lane_calls}}
use Rattle.network.proofs.network.Network.keep_up.Given as goal

-- the lanes so far had their upkeep, and the others' fronts of this switch are unchanged
abbrev pub invariant-loop-lane : goal.invariant-loop-lane
invariant-loop-lane g l = record {
  runs : NetworkRuns g.row.WAYS (joined_below l.lane (lane_calls l.at l.upkeep l.initial.self)) l.initial.self l.self;
  still : (n s : ℕ) → ((n < l.lane) × (s ≡ l.at) → ⊥) → front_at l.self n s ≡ front_at l.initial.self n s;
  left : (n : ℕ) → n < l.lane → IsLeft l.upkeep (front_at l.initial.self n l.at) (front_at l.self n l.at);
  later : l.initial.steps ≤ l.steps;
  cost : l.steps ≤ l.initial.steps + sum_by (group_upkeep_cost l.upkeep l.at) (take l.lane l.initial.self.groups);
}
