-- The words of a state's variables in the order of their places.
use Rattle.std.proofs.Common.{◌≡◌, ℕ, ◌<◌, Bool, true, false, not, List, length, slice_index, refl, sym, ap, ◌∙◌, arith}
use Rattle.std.proofs.lemmas.List.{ext_get_or}
use Rattle.query_lang.specs.{declared.fold.TypedFold.TypedFold, Folds.{body, fold_states, IsValidFold}}
use Rattle.fold_class.specs.{declared.class.Algebra.Algebra, Depth.is_history}
use Rattle.fold_class.specs.Step.{dimension, places, linear_places, history_places, words_at}
use Rattle.fold_class.specs.Translations.{translated, SameHistory, AreMoved}
use Rattle.fold_class.proofs.{PlaceLemmas.{map_at, length-map, places_less, place_at, placed, rank_size}, TranslationLaws.step_history}

not_true : (b : Bool) → not b ≡ true → b ≡ false
not_true true e = cc
not_true false e = refl

-- the words of a state's linear variables, in the order of declaration
abbrev pub linear_words : TypedFold → List ℕ → ℕ → ℕ
linear_words f state = slice_index (words_at state (linear_places f))

module _ (f : TypedFold) where
  abbrev n : ℕ
  n = fold_states f

  abbrev linear : ℕ → Bool
  linear v = not (is_history f v)

  at_place : (p : ℕ → Bool) (state : List ℕ) (v : ℕ) → v < n → p v ≡ true
      → slice_index (words_at state (places p n)) (length (places p v)) ≡ slice_index state v
  at_place p state v lt e = map_at _ _ _ (places_less p v n lt e)
      ∙ ap (slice_index state) (place_at p v n lt e)

  pub history_same : (xs ys : List ℕ) → words_at xs (history_places f) ≡ words_at ys (history_places f) → SameHistory f xs ys
  history_same xs ys e v lt k =
      sym (at_place _ _ v lt k) ∙ ap (λ z. slice_index z (length (places (is_history f) v))) e
      ∙ at_place _ _ v lt k

  same_history : (xs ys : List ℕ) → SameHistory f xs ys → words_at xs (history_places f) ≡ words_at ys (history_places f)
  same_history xs ys same =
      ext_get_or 0 (words_at xs (history_places f)) (words_at ys (history_places f))
      (length-map (slice_index xs) (history_places f) ∙ sym (length-map (slice_index ys) (history_places f)))
      (λ i lt. one i (omega (arith, lt, length-map (slice_index xs) (history_places f))))
    where
      one : (i : ℕ) → i < length (history_places f) → slice_index (words_at xs (history_places f)) i ≡ slice_index
          (words_at ys (history_places f)) i
      one i h =
          let r = placed (is_history f) n i h in
          map_at _ _ i h ∙ same (slice_index (history_places f) i) r.0 r.1
          ∙ sym (map_at _ _ i h)

  -- the history after a step depends on the history before it alone
  pub history_after : (args xs ys : List ℕ) → IsValidFold f → length xs ≡ n → length ys ≡ n
      → words_at xs (history_places f) ≡ words_at ys (history_places f) →
      words_at (body f xs args) (history_places f) ≡ words_at (body f ys args) (history_places f)
  history_after args xs ys valid hx hy e = same_history _ _
      (step_history f _ _ _ valid hx hy (history_same _ _ e))

  pub moved_from : (algebra : Algebra) (base xs ys : List ℕ) → ((i : ℕ) → i < dimension f
      → linear_words f ys i ≡ translated algebra (linear_words f base i) (linear_words f xs i))
      → AreMoved algebra f (slice_index base) xs ys
  moved_from algebra base xs ys h v lt e =
      let k : linear v ≡ true = ap (λ z. not z) e in
      let i = length (places linear v) in
      sym (at_place linear ys v lt k) ∙ h i (omega (arith, places_less linear v n lt k, rank_size f n))
      ∙ ap (λ z. translated algebra z (linear_words f xs i)) (at_place linear base v lt k)
      ∙ ap (translated algebra (slice_index base v)) (at_place linear xs v lt k)

  pub moved_back : (algebra : Algebra) (base xs ys : List ℕ) → AreMoved algebra f (slice_index base) xs ys → (i : ℕ) → i < dimension f
      → linear_words f ys i ≡ translated algebra (linear_words f base i) (linear_words f xs i)
  moved_back algebra base xs ys h i lt =
      let less : i < length (linear_places f) = omega (arith, lt, rank_size f n) in
      let r = placed linear n i less in
      let v = slice_index (linear_places f) i in
      map_at _ _ i less ∙ h v r.0 (not_true _ r.1)
      ∙ ap (λ z. translated algebra z (slice_index xs v)) (sym (map_at _ _ i less))
      ∙ ap (translated algebra (linear_words f base i)) (sym (map_at _ _ i less))
