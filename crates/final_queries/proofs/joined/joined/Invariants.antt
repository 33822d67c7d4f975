use Rattle.std.proofs.Common.{◌≡◌, ◌≤◌, ◌++◌, drop, map, length}
use Rattle.epoch_model.specs.Keys.{IsAscending}
use Rattle.final_queries.specs.{Finals.joined_rows, Joining.reads}
use Rattle.final_queries.proofs.joined.joined.Given as goal

-- the rows so far, and then what the rest of both gives, make the whole
abbrev pub invariant-loop-at : goal.invariant-loop-at
invariant-loop-at g l = record {
  made : l.made ++ joined_rows (reads (drop l.at l.left)) (reads (drop l.next l.right)) ≡ joined_rows (reads l.left) (reads l.right);
  within : l.next ≤ length l.right;
  order : IsAscending (map (λ row. row.key) (reads (drop l.next l.right)));
  steps : l.fn.steps ≤ l.steps;
}
