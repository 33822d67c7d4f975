-- Elements of lists that grow at the end.
use Rattle.std.proofs.Common.{◌≡◌, ℕ, zero, suc, ◌+◌, ◌<◌, List, [], ◌∷◌, ◌++◌, length, drop, Some, refl, ap, inl, inr, ◌⊎◌, arith}
use Rattle.std.{proofs.lemmas.Option.same_Some, specs.Prelude.slice_get}

-- an element of a list with one more is an earlier one, or the last
pub push_cases : {A : Type 0} (xs : List A) (y : A) (j : ℕ) (x : A) → slice_get (xs ++ y ∷ []) j ≡ Some x
    → (slice_get xs j ≡ Some x) ⊎ ((j ≡ length xs) × (y ≡ x))
push_cases [] y zero x e = inr (refl, same_Some y x e)
push_cases [] y (suc j) x e = inl e
push_cases (z ∷ xs) y zero x e = inl e
push_cases (z ∷ xs) y (suc j) x e = elim (push_cases xs y j x e) [ inl old ↦ inl old | inr new ↦ inr (ap suc new.0, new.1) ]

pub slice_get-left : {A : Type 0} (xs ys : List A) (j : ℕ) (x : A) → slice_get xs j ≡ Some x → slice_get (xs ++ ys) j ≡ Some x
slice_get-left [] ys j x e = cc
slice_get-left (z ∷ xs) ys zero x e = e
slice_get-left (z ∷ xs) ys (suc j) x e = slice_get-left xs ys j x e

pub slice_get-last : {A : Type 0} (xs : List A) (y : A) → slice_get (xs ++ y ∷ []) (length xs) ≡ Some y
slice_get-last [] y = refl
slice_get-last (z ∷ xs) y = slice_get-last xs y

-- the item at a place from which a list goes on
pub record StandsAt {A : Type 0} (all : List A) (n : ℕ) (x : A) (rest : List A) : Type 0 where
  pub found : slice_get all n ≡ Some x
  pub next : drop (n + 1) all ≡ rest
  pub within : n < length all

pub stands_at : {A : Type 0} (all : List A) (n : ℕ) (x : A) (rest : List A) → drop n all ≡ x ∷ rest → StandsAt all n x rest
stands_at [] zero x rest e = cc
stands_at [] (suc n) x rest e = cc
stands_at (y ∷ all) zero x rest e =
    let same : y ≡ x = cc in
    let tails : all ≡ rest = cc in
    record { found = ap Some same; next = tails; within = omega arith }
stands_at (y ∷ all) (suc n) x rest e =
    let r = stands_at all n x rest e in
    let one : suc n + 1 ≡ suc (n + 1) = omega arith in
    record { found = r.found; next = simp (one, r.next); within = omega (arith, r.within) }
