-- Places in lists.
use Rattle.std.{proofs.Common.{◌≡◌, ℕ, zero, suc, List, [], ◌∷◌, Some, drop}, specs.Prelude.slice_get}

-- the item at a place is the first of those from there on
pub first_at : {A : Type 0} (xs : List A) (i : ℕ) (x : A) (rest : List A) → drop i xs ≡ x ∷ rest → (slice_get xs i ≡ Some x)
    × (drop (suc i) xs ≡ rest)
first_at {A = A} [] i x rest e = absurd (nothing i e)
  where
    nothing : (i : ℕ) → drop {A = A} i [] ≡ x ∷ rest → ⊥
    nothing zero e = cc
    nothing (suc i) e = cc
first_at (y ∷ xs) zero x rest e = let a : y ≡ x = cc in let b : xs ≡ rest = cc in (rw a, b)
first_at (y ∷ xs) (suc i) x rest e = first_at xs i x rest e
