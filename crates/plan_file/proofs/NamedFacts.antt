-- Lines with too many tokens.
use Rattle.std.proofs.{Common.{◌≡◌, ℕ, List, [], ◌∷◌, length, ap, arith, refl}, lemmas.List.Splits.length-slice_split}
use Rattle.std.specs.List.{slice_split}
use Rattle.plan_file.specs.Lexis.{is_space}

pub one_more : (x a text : List ℕ) → x ∷ slice_split is_space text ≡ a ∷ [] → ⊥
one_more x a text e = by (slice_split is_space text) refl e
  where
    by : (ts : List (List ℕ)) → slice_split is_space text ≡ ts → x ∷ ts ≡ a ∷ [] → ⊥
    by [] f e = omega (arith, ap length f, length-slice_split is_space text)
    by (y ∷ ts) f e = cc

pub two_more : (w x a b text : List ℕ) → w ∷ x ∷ slice_split is_space text ≡ a ∷ b ∷ [] → ⊥
two_more w x a b text e = by (slice_split is_space text) refl e
  where
    by : (ts : List (List ℕ)) → slice_split is_space text ≡ ts → w ∷ x ∷ ts ≡ a ∷ b ∷ [] → ⊥
    by [] f e = omega (arith, ap length f, length-slice_split is_space text)
    by (y ∷ ts) f e = cc
