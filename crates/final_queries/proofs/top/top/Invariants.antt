use Rattle.std.proofs.Common.{◌≡◌, ◌≤◌, ◌++◌, drop}
use Rattle.final_queries.specs.TopRows.{kept_from}
use Rattle.final_queries.proofs.top.top.Given as goal

-- the rows so far, and then those that are left, make the whole
abbrev pub invariant-loop-place : goal.invariant-loop-place
invariant-loop-place g l = record {
  rows : l.made ++ kept_from l.last l.column l.place (drop l.place l.rows) ≡ kept_from l.last l.column 0 l.rows;
  steps : l.fn.steps ≤ l.steps;
}
