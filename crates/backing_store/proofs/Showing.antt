-- Rows that are shown one by one.
use Rattle.std.proofs.Common.{◌≡◌, ℕ, zero, suc, ◌<◌, List, [], ◌∷◌, ◌++◌, length, map, set, take, drop, refl, ap, arith, Some, slice_get}
use Rattle.std.proofs.lemmas.Option.{same_Some}
use Rattle.epoch_model.specs.declared.tables.Row.{Row}

-- the rows with those before a place shown
abbrev pub shown_to : (Row → Row) → List Row → ℕ → List Row
shown_to F rows at = map F (take at rows) ++ drop at rows

pub length-shown_to : (F : Row → Row) (rows : List Row) (at : ℕ) → length (shown_to F rows at) ≡ length rows
length-shown_to F [] zero = refl
length-shown_to F [] (suc at) = refl
length-shown_to F (row ∷ rows) zero = refl
length-shown_to F (row ∷ rows) (suc at) = ap suc (length-shown_to F rows at)

pub none_shown : (F : Row → Row) (rows : List Row) → shown_to F rows 0 ≡ rows
none_shown F rows = refl

-- the row at the place is still the store's
pub here_stored : (F : Row → Row) (rows : List Row) (at : ℕ) (row : Row) → slice_get rows at ≡ Some row
    → slice_get (shown_to F rows at) at ≡ Some row
here_stored F [] at row here = cc here
here_stored F (first ∷ rows) zero row here = here
here_stored F (first ∷ rows) (suc at) row here = here_stored F rows at row here

-- and it is shown next
pub one_shown : (F : Row → Row) (rows : List Row) (at : ℕ) (row : Row) → slice_get rows at ≡ Some row
    → set (shown_to F rows at) at (F row) ≡ shown_to F rows (suc at)
one_shown F [] at row here = cc here
one_shown F (first ∷ rows) zero row here = rw (← same_Some _ _ here) refl
one_shown F (first ∷ rows) (suc at) row here = ap (λ (rest : List Row). F first ∷ rest) (one_shown F rows at row here)

pub all_shown : (F : Row → Row) (rows : List Row) → shown_to F rows (length rows) ≡ map F rows
all_shown F [] = refl
all_shown F (row ∷ rows) = ap (λ (rest : List Row). F row ∷ rest) (all_shown F rows)

pub take_next : (rows : List Row) (at : ℕ) (row : Row) → slice_get rows at ≡ Some row → take (suc at) rows ≡ take at rows ++ row ∷ []
take_next [] at row here = cc here
take_next (first ∷ rows) zero row here = rw (← same_Some _ _ here) refl
take_next (first ∷ rows) (suc at) row here = ap (λ (rest : List Row). first ∷ rest) (take_next rows at row here)

pub row_at : (rows : List Row) (at : ℕ) → at < length rows → (row : Row) × (slice_get rows at ≡ Some row)
row_at [] at low = absurd (omega (arith, low))
row_at (row ∷ rows) zero low = (row, refl)
row_at (row ∷ rows) (suc at) low = row_at rows at (omega (arith, low))
