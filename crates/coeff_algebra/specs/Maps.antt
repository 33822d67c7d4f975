-- Affine maps over a semiring, as tables of elements: row i has the elements at columns 0 to n - 1, and then the one that is added.
use Rattle.std.specs.Prelude.{ℕ, zero, suc, ◌+◌, ◌*◌, ◌≤◌, ◌==◌, if◌then◌else◌, List, take, drop}
use Rattle.coeff_algebra.specs.Elements.{Elements, IsWordOf}

-- the sum of the first n of some elements
abbrev pub sum_below : {C : Type 0} → Elements C → ℕ → (ℕ → C) → C
sum_below k zero f = k.zero
sum_below k (suc n) f = k.add (sum_below k n f) (f n)

module _ {C : Type 0} (k : Elements C) where
  -- a map of dimension n applied to the elements of x
  abbrev pub map_apply : ℕ → (ℕ → ℕ → C) → (ℕ → C) → ℕ → C
  map_apply n m x i = k.add (sum_below k n (λ j. k.mul (m i j) (x j))) (m i n)

  -- the map that applies `earlier` first and `later` after it
  abbrev pub map_compose : ℕ → (ℕ → ℕ → C) → (ℕ → ℕ → C) → ℕ → ℕ → C
  map_compose n later earlier i j =
      let products = sum_below k n (λ l. k.mul (later i l) (earlier l j)) in
      if j == n then k.add products (later i n) else products

  -- some element of a row is a word
  abbrev pub HasWord : ℕ → (ℕ → C) → Type 0
  HasWord n row = (j : ℕ) × (j ≤ n) × IsWordOf k (row j)

-- the words at a place, where each place has the same number of words
abbrev pub stored_at : ℕ → List ℕ → ℕ → List ℕ
stored_at size ws place = take size (drop (place * size) ws)

-- the words of row i and column j, where a map of dimension n is stored row by row
abbrev pub stored_entry : ℕ → ℕ → List ℕ → ℕ → ℕ → List ℕ
stored_entry size n ws i j = stored_at size ws (i * (n + 1) + j)

-- the element at a place, and the table of a map's elements
abbrev pub element_at : {C : Type 0} → (List ℕ → C) → ℕ → List ℕ → ℕ → C
element_at from_words size ws place = from_words (stored_at size ws place)

abbrev pub table_of : {C : Type 0} → (List ℕ → C) → ℕ → ℕ → List ℕ → ℕ → ℕ → C
table_of from_words size n ws i j = from_words (stored_entry size n ws i j)
