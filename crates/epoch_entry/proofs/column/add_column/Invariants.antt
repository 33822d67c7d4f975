use Rattle.std.proofs.Common.{◌≡◌, ◌≢◌, ℕ, ◌<◌, length, slice_index}
use Rattle.coeff_algebra.specs.Maps.{table_of}
use Rattle.epoch_entry.proofs.column.add_column.Given as goal

abbrev pub invariant-loop-row : goal.invariant-loop-row
invariant-loop-row g l = let m = g.C.Coeff in let n = length l.linear in record {
  added : (i : ℕ) → i < l.row → slice_index l.state (slice_index l.linear i) ≡ m.elements.to_word
      (m.elements.add (m.elements.embed (slice_index l.initial.state (slice_index l.linear i)))
      (table_of m.from_words m.WORDS n l.map i n));
  others : (v : ℕ) → ((i : ℕ) → i < l.row → slice_index l.linear i ≢ v) → slice_index l.state v ≡ slice_index l.initial.state v;
}
