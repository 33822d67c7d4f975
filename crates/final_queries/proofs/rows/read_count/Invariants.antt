use Rattle.std.proofs.Common.{◌≡◌, ◌+◌, ◌≤◌, length, drop}
use Rattle.final_queries.specs.Joining.{reads}
use Rattle.final_queries.proofs.rows.read_count.Given as goal

-- the rows counted so far and those that are left are all that are read
abbrev pub invariant-loop-at : goal.invariant-loop-at
invariant-loop-at l = record {
  count : l.count + length (reads (drop l.at l.rows)) ≡ length (reads l.rows);
  small : l.count ≤ l.at;
}
