use Rattle.std.proofs.Common.{◌≡◌, ◌≤◌, not, length}
use Rattle.fold_class.specs.{Depth.is_history, Step.{places, list_of}, Program.origin_of}
use Rattle.fold_class.proofs.layout.places_of.Given as goal

abbrev pub invariant-loop-v : goal.invariant-loop-v
invariant-loop-v l = record {
  linear : l.places.linear ≡ places (λ v. not (is_history l.f v)) l.v;
  history : l.places.history ≡ places (is_history l.f) l.v;
  origins : l.places.origins ≡ list_of l.v (origin_of l.f);
  few_linear : length l.places.linear ≤ l.v;
  few_history : length l.places.history ≤ l.v;
}
