-- The state of an additive fold after rows that add what several lists of rows add together.
use Rattle.part_laws.proofs.Words.{◌≡◌, ℕ, suc, ◌+◌, ◌-◌, ◌%◌, ◌^◌, ◌<◌, List, [], ◌∷◌, length, map, fold, replicate, sym, refl, ap, ◌∙◌}
use Rattle.part_laws.proofs.Words.{subst, arith, sum_by, ext_get_or, length-replicate, All-get_or, All-replicate, sum_by-cons, ArgRow}
use Rattle.part_laws.{proofs.Words.{TypedFold, IsWord, AreWords, fold_states, folded, plus, zeros}, specs.PartLaws.added}
use Rattle.std.proofs.Common.{slice_index}
use Rattle.additive_laws.{specs.Laws.IsAdditiveFrom, proofs.Adding.{length-plus, words-plus, plus_at}}
use Rattle.additive_laws.proofs.Sums.{length-folded, state_is_a_sum}

carry : (s z a rest : ℕ) → z ≡ a % 2 ^ 64 → ((s + z) % 2 ^ 64 + rest) % 2 ^ 64 ≡ (s + (a + rest)) % 2 ^ 64
carry s z a rest e = omega arith

-- states that are added in sequence
plus_along : {X : Type 0} (z : X → List ℕ) (a : X → ℕ) (v size : ℕ) → ((x : X) → length (z x) ≡ size)
    → ((x : X) → slice_index (z x) v ≡ a x % 2 ^ 64) → v < size → (state : List ℕ) → length state ≡ size → AreWords state → (xs : List X)
    → slice_index (fold plus state (map z xs)) v ≡ (slice_index state v + sum_by a xs) % 2 ^ 64
plus_along z a v size long is lt state same words [] =
    let small : slice_index state v < 2 ^ 64 = All-get_or IsWord state v 0 (subst (λ n. v < n) (sym same) lt) words in
    omega arith
plus_along z a v size long is lt state same words (x ∷ xs) =
    plus_along z a v size long is lt (plus state (z x)) (length-plus state _ ∙ same) (words-plus _ _ words) xs
    ∙ (ap (λ n. (n + sum_by a xs) % 2 ^ 64) (plus_at state (z x) v (same ∙ sym (long x)) (subst (λ n. v < n) (sym same) lt))
    ∙ (carry (slice_index state v) (slice_index (z x) v) (a x) (sum_by a xs) (is x)
    ∙ ap (λ n. (slice_index state v + n) % 2 ^ 64) (sym (sum_by-cons a x xs))))

length-plus_along : {X : Type 0} (z : X → List ℕ) (state : List ℕ) (xs : List X) → length (fold plus state (map z xs)) ≡ length state
length-plus_along z state [] = refl
length-plus_along z state (x ∷ xs) = length-plus_along z (plus state (z x)) xs ∙ length-plus _ _

zero_at : (n v : ℕ) → slice_index (replicate n 0) v ≡ 0
zero_at (suc n) (suc v) = zero_at n v
zero_at _ _ = refl

from_zeros : (f : TypedFold) (state : List ℕ) → IsAdditiveFrom f state → IsAdditiveFrom f (zeros f)
from_zeros f state h = record {
  valid = h.valid;
  additive = h.additive;
  size = length-replicate _ 0;
  words = All-replicate IsWord _ 0 (omega arith);
}

-- words that each have the start in them
words_along : {X : Type 0} (s : ℕ) (w a : X → ℕ) → s < 2 ^ 64 → ((x : X) → w x ≡ (s + a x) % 2 ^ 64) → (xs : List X) (c : ℕ)
    → (c + sum_by (λ x. w x + (2 ^ 64 - s)) xs) % 2 ^ 64 ≡ (c + sum_by a xs) % 2 ^ 64
words_along s w a small is [] c = refl
words_along s w a small is (x ∷ xs) c =
    ap (λ n. (c + n) % 2 ^ 64) (sum_by-cons _ x xs)
    ∙ (taken _ _ _ (is x)
    ∙ (words_along s w a small is xs _
    ∙ (regroup _ _ ∙ ap (λ n. (c + n) % 2 ^ 64) (sym (sum_by-cons a x xs)))))
  where
    taken : (x y rest : ℕ) → x ≡ (s + y) % 2 ^ 64 → (c + ((x + (2 ^ 64 - s)) + rest)) % 2 ^ 64 ≡ ((c + y) + rest) % 2 ^ 64
    taken x y rest e = omega arith

    regroup : (x y : ℕ) → ((c + x) + y) % 2 ^ 64 ≡ (c + (x + y)) % 2 ^ 64
    regroup x y = omega arith

module _ {X : Type 0} (f : TypedFold) (state : List ℕ) (h : IsAdditiveFrom f state) (whole : List ArgRow) (rows : X → List ArgRow)
    (xs : List X)
    (sums : (v : ℕ) → added f v whole ≡ sum_by (λ x. added f v (rows x)) xs) where
  pub variables_add : (v : ℕ) → v < fold_states f
      → slice_index (folded f state whole) v ≡ (slice_index state v + sum_by (λ x. added f v (rows x)) xs) % 2 ^ 64
  variables_add v lt = state_is_a_sum f _ whole v h lt ∙ ap (λ n. (slice_index state v + n) % 2 ^ 64) (sums v)

  -- by the states of the lists
  abbrev alone : X → List ℕ
  alone x = folded f (zeros f) (rows x)

  bare : (a : ℕ) → (0 + a) % 2 ^ 64 ≡ a % 2 ^ 64
  bare a = omega arith

  variable_of_sum : (v : ℕ) → v < fold_states f → slice_index (folded f state whole) v ≡ slice_index (fold plus state (map alone xs)) v
  variable_of_sum v lt =
      variables_add v lt
      ∙ sym (plus_along _ _ v _
      (λ x. length-folded f (zeros f) (rows x) ∙ length-replicate (fold_states f) 0)
      (λ x. state_is_a_sum f (zeros f) (rows x) v (from_zeros f state h) lt
      ∙ (ap (λ n. (n + added f v (rows x)) % 2 ^ 64) (zero_at (fold_states f) v) ∙ bare (added f v (rows x))))
      lt state h.size h.words xs)

  pub states_add : folded f state whole ≡ fold plus state (map (λ x. folded f (zeros f) (rows x)) xs)
  states_add =
      ext_get_or 0 _ _
      (length-folded f state whole ∙ sym (length-plus_along alone state xs))
      (λ v lt. variable_of_sum v (subst (λ n. v < n) (length-folded f _ whole ∙ h.size) lt))

  -- by what the tables of the lists show
  pub words_add : (v : ℕ) → v < fold_states f → slice_index (folded f state whole) v
      ≡ (slice_index state v + sum_by (λ x. slice_index (folded f state (rows x)) v + (2 ^ 64 - slice_index state v)) xs) % 2 ^ 64
  words_add v lt =
      variables_add v lt
      ∙ sym (words_along _ _ _
      (All-get_or IsWord _ v 0 (subst (λ n. v < n) (sym h.size) lt) h.words)
      (λ x. state_is_a_sum f _ (rows x) v h lt) xs _)
