-- Moves within a list, and rows that are stored one after another.
use Rattle.std.specs.Prelude.{ℕ, zero, suc, List, [], ◌∷◌, ◌++◌, ◌+◌, take, drop}

-- the element at a place moved to the front
abbrev pub at_front : {X : Type 0} → ℕ → List X → List X
at_front at xs = take 1 (drop at xs) ++ (take at xs ++ drop (at + 1) xs)

-- a number of rows of this width
abbrev pub rows_of : ℕ → ℕ → List ℕ → List (List ℕ)
rows_of width zero words = []
rows_of width (suc count) words = take width words ∷ rows_of width count (drop width words)
