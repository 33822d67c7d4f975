-- Lists that belong together, item by item or as the first part of another.
use Rattle.std.specs.Prelude.{◌≡◌, ℕ, suc, List, [], ◌∷◌, ◌++◌}

-- one for one, with numbers from this one on
abbrev pub EachFrom : {X Y : Type 0} → (ℕ → X → Y → Type 0) → ℕ → List X → List Y → Type 0
EachFrom R n [] [] = Unit {0}
EachFrom R n [] (y ∷ ys) = ⊥
EachFrom R n (x ∷ xs) [] = ⊥
EachFrom R n (x ∷ xs) (y ∷ ys) = R n x y × EachFrom R (suc n) xs ys

-- one for one
abbrev pub Each : {X Y : Type 0} → (X → Y → Type 0) → List X → List Y → Type 0
Each R xs ys = EachFrom (λ n. R) 0 xs ys

-- the first of these items, in order: some, all or none
abbrev pub AreFirst : {X : Type 0} → List X → List X → Type 0
AreFirst {X = X} first items = (rest : List X) × (first ++ rest ≡ items)
