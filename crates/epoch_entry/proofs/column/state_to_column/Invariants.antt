use Rattle.std.proofs.Common.{◌≡◌, ℕ, ◌+◌, ◌*◌, ◌<◌, length, slice_index}
use Rattle.coeff_algebra.specs.Maps.{stored_entry}
use Rattle.epoch_entry.proofs.column.state_to_column.Given as goal

abbrev pub invariant-loop-row : goal.invariant-loop-row
invariant-loop-row g l = let m = g.C.Coeff in let n = length l.linear in record {
  written : (i : ℕ) → i < l.row → stored_entry m.WORDS n l.map i n ≡ m.words
      (m.elements.embed (slice_index l.state (slice_index l.linear i)));
  others : (i c : ℕ) → i < n → c < n → stored_entry m.WORDS n l.map i c ≡ stored_entry m.WORDS n l.initial.map i c;
  steps : l.steps ≡ l.initial.steps + l.row * m.WORDS;
}
