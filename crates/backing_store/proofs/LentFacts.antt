-- Words that are written over others, row by row.
use Rattle.std.proofs.Common.{◌≡◌, ℕ, zero, suc, ◌*◌, ◌<◌, List, [], ◌∷◌, ◌++◌, length, take, drop, refl, ap, ◌∙◌}
use Rattle.bucket_cache.{specs.{LendingRows.{with_entry, written_over}, Slices.rows_of}, proofs.LentEntries.entry_written}
use Rattle.backing_store.specs.{Store.StoredRow, States.{paired, states_in}, StoreLending.with_words_at}

-- rows are written as entries are
paired_written : (keys : List ℕ) (rows : List (List ℕ)) (at : ℕ) (w : List ℕ)
    → paired keys (with_entry rows at w) ≡ with_words_at (paired keys rows) at w
paired_written [] rows at w = refl
paired_written (key ∷ keys) [] at w = refl
paired_written (key ∷ keys) (row ∷ rows) zero w =
    let first : StoredRow = record { key = key; words = written_over row w } in
    ap (λ rest. first ∷ rest) (paired_written keys rows zero (drop (length row) w))
paired_written (key ∷ keys) (row ∷ rows) (suc at) w =
    let first : StoredRow = record { key = key; words = row } in
    ap (λ rest. first ∷ rest) (paired_written keys rows at w)

pub rows_written : (at width : ℕ) (keys words w : List ℕ) → at < length keys → length words ≡ length keys * width
    → states_in width keys (take (at * width) words ++ written_over (drop (at * width) words) w) ≡ with_words_at
    (states_in width keys words) at w
rows_written at width keys words w low flat =
    ap (paired keys) (entry_written at width (length keys) words w low flat) ∙ paired_written keys (rows_of width (length keys) words) at w
