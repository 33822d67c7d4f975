use Rattle.std.proofs.Common.{◌≡◌, ◌<◌, ◌≤◌, ℕ, length}
use Rattle.switch_core.specs.declared.upkeep.Upkeep.TheVariants as due
use Rattle.network.{specs.Running.{RunsWithMerges, front_at, joined_below, upkeep_calls, without_merges}, proofs.Calls.IsEmptied}
use Rattle.network.proofs.network.Network.drain.Given as goal

-- the switches below this one are drained, and the others are unchanged
abbrev pub invariant-loop-at : goal.invariant-loop-at
invariant-loop-at g l = record {
  runs : RunsWithMerges g.row.WAYS (joined_below l.at (λ at. without_merges (upkeep_calls at due.Sweep l.initial.self))) l.initial.self
      l.self;
  same : (n s : ℕ) → l.at ≤ s → front_at l.self n s ≡ front_at l.initial.self n s;
  drained : (n s : ℕ) → n < length l.initial.self.groups → s < l.at → IsEmptied (front_at l.self n s);
  later : l.initial.steps ≤ l.steps;
}
