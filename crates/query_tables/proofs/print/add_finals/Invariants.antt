use Rattle.std.proofs.Common.{◌+◌, ◌≤◌, length, drop}
use Rattle.final_queries.specs.Finals.{with_finals}
use Rattle.query_tables.proofs.FinalSteps.{IsOnTheWay}
use Rattle.query_tables.proofs.print.add_finals.Given as goal

-- the tables so far, and then the finals that are left, give the whole
abbrev pub invariant-loop-one : goal.invariant-loop-one
invariant-loop-one g l = record {
  way : IsOnTheWay l.q.names l.q.folds (with_finals l.q.names l.q.folds l.fn.groups l.q.finals) (length l.fn.groups + length l.q.finals)
      l.tables (drop l.one-index l.q.finals);
  steps : l.fn.steps ≤ l.steps;
}
