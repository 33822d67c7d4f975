use Rattle.std.proofs.Common.{◌≡◌, ◌≢◌, ℕ, ◌+◌, ◌*◌, ◌<◌, ◌≤◌, length, slice_index}
use Rattle.coeff_algebra.specs.Maps.{stored_entry}
use Rattle.fold_class.specs.{Parts.column_shares, Step.share_of, Stored.part_at}
use Rattle.fold_class.proofs.rows.write_column.Given as goal

abbrev pub invariant-loop-row : goal.invariant-loop-row
invariant-loop-row g l = let m = g.C.Coeff in let d = length l.linear in record {
  entries : (i : ℕ) → i < l.row → stored_entry m.WORDS d l.map i l.column ≡ m.words
      (share_of (column_shares m.elements d l.column) (part_at m.from_words m.WORDS l.scratch (slice_index l.linear i)));
  others : (i c : ℕ) → i < d → c ≤ d → c ≢ l.column → stored_entry m.WORDS d l.map i c ≡ stored_entry m.WORDS d l.initial.map i c;
  steps : l.steps ≡ l.initial.steps + l.row * m.WORDS;
}
