use Rattle.std.proofs.Common.{◌≡◌, ◌≤◌, ◌++◌, drop}
use Rattle.final_queries.specs.Ranks.{ranks_from}
use Rattle.final_queries.proofs.top.ranks_of.Given as goal

-- the ranks so far, and then those that are left, make the whole
abbrev pub invariant-loop-place : goal.invariant-loop-place
invariant-loop-place g l = record {
  ranks : l.ranks.items ++ ranks_from l.column l.place (drop l.place l.rows) ≡ ranks_from l.column 0 l.rows;
  steps : l.fn.steps ≤ l.steps;
}
