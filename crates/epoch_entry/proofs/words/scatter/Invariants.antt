use Rattle.std.proofs.Common.{◌≡◌, ◌≢◌, ℕ, ◌+◌, ◌<◌, slice_index}
use Rattle.epoch_entry.proofs.words.scatter.Given as goal

abbrev pub invariant-loop-at : goal.invariant-loop-at
invariant-loop-at g l = record {
  written : (i : ℕ) → i < l.at → slice_index l.state (slice_index l.places i) ≡ slice_index l.words i;
  others : (v : ℕ) → ((i : ℕ) → i < l.at → slice_index l.places i ≢ v) → slice_index l.state v ≡ slice_index l.initial.state v;
  steps : l.steps ≡ l.initial.steps + l.at;
}
