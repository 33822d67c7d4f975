use Rattle.std.proofs.Common.{◌≡◌, ◌≤◌, ◌++◌, drop}
use Rattle.final_queries.specs.{Finals.filtered_rows, Joining.reads}
use Rattle.final_queries.proofs.rows.filtered.Given as goal

-- the rows so far, and then those that are left, make the whole
abbrev pub invariant-loop-at : goal.invariant-loop-at
invariant-loop-at g l = record {
  rows : l.made ++ filtered_rows l.condition (reads (drop l.at l.rows)) ≡ filtered_rows l.condition (reads l.rows);
  steps : l.fn.steps ≤ l.steps;
}
