use Rattle.std.proofs.Common.{◌≤◌}
use Rattle.query_facts.proofs.earlier.counts.Given as goal

abbrev pub invariant-loop-item : goal.invariant-loop-item
invariant-loop-item l = record {
  folds : l.folds ≤ l.item-index;
  streams : l.streams ≤ l.item-index;
}
