use Rattle.std.proofs.Common.{◌≡◌, ℕ, ◌+◌, ◌<◌, slice_index}
use Rattle.fold_class.specs.{Stored.part_at, Rows.fixed_word}
use Rattle.fold_class.proofs.rows.write_history.Given as goal

abbrev pub invariant-loop-i : goal.invariant-loop-i
invariant-loop-i g l = let m = g.C.Coeff in record {
  words : (i : ℕ) → i < l.i → slice_index l.history i ≡ fixed_word (part_at m.from_words m.WORDS l.scratch (slice_index l.places i));
  steps : l.steps ≡ l.initial.steps + l.i;
}
