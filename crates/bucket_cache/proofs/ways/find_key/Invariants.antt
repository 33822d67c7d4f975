use Rattle.std.proofs.Common.{◌≡◌, ◌≤◌, ◌<◌, ◌*◌, ℕ, get_or, length, [], false}
use Rattle.epoch_model.specs.Keys.{key_eq}
use Rattle.bucket_cache.specs.Slices.{rows_of}
use Rattle.bucket_cache.proofs.ways.find_key.Given as goal

abbrev pub invariant-loop-i : goal.invariant-loop-i
invariant-loop-i g l = record {
  none : (at : ℕ) → at < l.i → key_eq (get_or (rows_of (length l.key) (length l.order) l.words) (get_or l.order at 0) []) l.key ≡ false;
  steps : l.steps ≡ l.initial.steps;
  compared : l.compared ≤ l.i * length l.key;
}
