use Rattle.std.proofs.Common.{◌≡◌, ◌≤◌, ◌++◌, drop}
use Rattle.final_queries.specs.{Finals.mapped_rows, Joining.reads}
use Rattle.final_queries.proofs.rows.mapped.Given as goal

-- the rows so far, and then those that are left, make the whole
abbrev pub invariant-loop-at : goal.invariant-loop-at
invariant-loop-at g l = record {
  rows : l.made ++ mapped_rows l.values (reads (drop l.at l.rows)) ≡ mapped_rows l.values (reads l.rows);
  steps : l.fn.steps ≤ l.steps;
}
