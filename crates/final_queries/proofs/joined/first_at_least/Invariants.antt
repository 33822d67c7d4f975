use Rattle.std.proofs.Common.{◌-◌, ◌≤◌, take, drop}
use Rattle.final_queries.specs.Joining.{AreSmaller}
use Rattle.final_queries.proofs.joined.first_at_least.Given as goal

-- the rows that were passed over
abbrev pub invariant-loop-at : goal.invariant-loop-at
invariant-loop-at g l = record {
  smaller : AreSmaller l.key (take (l.at - l.from) (drop l.from l.rows));
  steps : l.fn.steps ≤ l.steps;
}
