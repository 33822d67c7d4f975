-- The rows of a fold compute one step of it.
use Rattle.std.proofs.Common.{◌≡◌, ℕ, zero, suc, ◌<◌, ◌≤◌, Bool, true, false, not, ◌==◌, nat_lt, if◌then◌else◌, List, [], ◌∷◌, ◌++◌, map}
use Rattle.std.proofs.{Common.{length, get_or, slice_index, refl, sym, ap, ◌∙◌, subst, arith}, lemmas.Bool.Decides.nat_tests}
use Rattle.std.proofs.lemmas.List.{map-append, get_or_past, ext_get_or}
use Rattle.query_lang.specs.{declared.fold.TypedFold.TypedFold, Words.{IsWord, AreWords}}
use Rattle.query_lang.specs.Folds.{body, fold_states, fold_args, fold_block, IsValidFold}
use Rattle.fold_code.{specs.{Code.fold_instrs, Machine.{at, run_code}}, proofs.Runs.code_runs}
use Rattle.coeff_algebra.specs.{Elements.{Elements, ElementLaws, IsWordOf}, Maps.{sum_below, map_apply, table_of, stored_entry, HasWord}}
use Rattle.coeff_algebra.proofs.MapLemmas.{sum_same}
use Rattle.fold_class.specs.{declared.class.Algebra.Algebra, Depth.is_history, Kinds.is_linear_by}
use Rattle.fold_class.specs.{Parts.{Part, Fixed, Share, Lost, parts, row_shares, column_shares, IsAlgebraOf}, Step.{list_of, rank}}
use Rattle.fold_class.specs.Step.{dimension, places, linear_places, history_places, words_at, step_rows, first_column, step_column}
use Rattle.fold_class.specs.{Step.share_of, StepMap.{Fitting, IsStepOf}}
use Rattle.fold_class.specs.Rows.{Rows, Remembered, Carried, rows_dimension, first_part, column_after, entry_of, fixed_word, Leaves}
use Rattle.fold_class.{specs.Program.{IsStateWith, IsStepFrom, origin_of, origins_of}, proofs.StepLemmas.{length-list_of, is_step}}
use Rattle.fold_class.proofs.Columns.{column_of, get_or-map, step_column_is}
use Rattle.fold_class.proofs.PlaceLemmas.{map_at, length-map, place_at, places_less, placed, rank_size}

map_list_below : {A B : Type 0} (h : A → B) (n : ℕ) (f : ℕ → A) (g : ℕ → B) → ((i : ℕ) → i < n → h (f i) ≡ g i)
    → map h (list_of n f) ≡ list_of n g
map_list_below h zero f g e = refl
map_list_below h (suc n) f g e =
    map-append h (list_of n f) (f n ∷ []) ∙ ap (λ z. z ++ h (f n) ∷ []) (map_list_below h n f g (λ i lt. e i (omega arith)))
    ∙ ap (λ z. list_of n g ++ z ∷ []) (e n (omega arith))

word_at : (xs : List ℕ) (s : ℕ) → AreWords xs → IsWord (slice_index xs s)
word_at xs s h = place (nat_lt s (length xs)) refl
  where
    place : (b : Bool) → nat_lt s (length xs) ≡ b → IsWord (slice_index xs s)
    place true t = let lt : s < length xs = grind (arith, nat_tests) in h s 0 lt
    place false t = let ge : length xs ≤ s = grind (arith, nat_tests) in let e : slice_index xs s ≡ 0 =
        get_or_past xs s 0 ge in omega (arith, e)

-- the words of a state at the places of the variables that pass a test
word_of : (p : ℕ → Bool) (n v : ℕ) (state : List ℕ) → v < n → p v ≡ true → length (places p v) < length (places p n)
    → slice_index (words_at state (places p n)) (length (places p v)) ≡ slice_index state v
word_of p n v state lt e less = map_at (slice_index state) (places p n) (length (places p v)) less
    ∙ ap (slice_index state) (place_at p v n lt e)

not_true : (b : Bool) → not b ≡ true → b ≡ false
not_true true e = cc
not_true false e = refl

share_column : {C : Type 0} (k : Elements C) (d c : ℕ) (p : Part (ℕ → C))
    → share_of (column_shares k d c) (column_of c p) ≡ share_of (row_shares k d) p c
share_column k d c (Fixed w) = refl
share_column k d c (Share e) = refl
share_column k d c Lost = refl

module _ {C : Type 0} {is_element : C → Type 0} {k : Elements C} (laws : ElementLaws is_element k) (algebra : Algebra)
    (alg : IsAlgebraOf algebra k) (words : C → List ℕ) (from_words : List ℕ → C) (size : ℕ)
    (load_store : (x : C) → from_words (words x) ≡ x) (f : TypedFold) (rows : Rows) (valid : IsValidFold f)
    (linear : is_linear_by algebra f ≡ true)
    (ei : rows.code.instrs ≡ fold_instrs f) (ea : rows.algebra ≡ algebra) (eo : rows.origins ≡ origins_of f)
    (el : rows.linear ≡ linear_places f) (eh : rows.history ≡ history_places f)
    (history args map' history' state : List ℕ) (st : IsStateWith f history state) (al : length args ≡ fold_args f) (aw : AreWords args)
    (leaves : Leaves k words size rows history args map' history') where
  abbrev n : ℕ
  n = fold_states f

  abbrev d : ℕ
  d = dimension f

  abbrev x : ℕ → ℕ
  x j = slice_index (words_at state (linear_places f)) j

  is_lin : ℕ → Bool
  is_lin v = not (is_history f v)

  dim : rows_dimension rows ≡ d
  dim = ap (λ l. length l) el ∙ sym (rank_size f n)

  x_at : (v : ℕ) → v < n → is_history f v ≡ false → x (rank f v) ≡ slice_index state v
  x_at v lt e =
      let t : not (is_history f v) ≡ true = ap not e in
      ap x (rank_size f v) ∙ word_of (λ v. not (is_history f v)) n v state lt t (less v lt t)
    where
      less : (v : ℕ) → v < n → not (is_history f v) ≡ true → length (places (λ v. not (is_history f v)) v) < length
          (places (λ v. not (is_history f v)) n)
      less v lt t = places_less (λ v. not (is_history f v)) v n lt t

  fitting : Fitting f state args x
  fitting = record {
    valid = valid;
    state_long = st.long;
    args_long = al;
    state_words = λ s. word_at state s st.words;
    args_words = λ s. word_at args s aw;
    linear = x_at;
  }

  step : IsStepOf k algebra f state args x
  step = is_step laws algebra alg f state args x fitting linear

  -- the parts at the start of a column
  start_is : (c : ℕ) → map (first_part k c history) rows.origins ≡ list_of n (first_column k algebra f c state)
  start_is c = ap (map (first_part k c history)) eo
      ∙ map_list_below (first_part k c history) n (origin_of f) (first_column k algebra f c state) (λ v lt. one v lt (is_history f v) refl)
    where
      one : (v : ℕ) → v < n → (b : Bool) → is_history f v ≡ b →
          first_part k c history (if b then Remembered (length (places (is_history f) v)) else Carried
          (length (places (λ v. not (is_history f v)) v)))
          ≡ (if b then Fixed (slice_index state v) else Share (if c == rank f v then k.one else k.zero))
      one v lt true e = ap (λ w. Fixed w) (ap (λ z. slice_index z (length (places (is_history f) v))) (sym st.same)
          ∙ word_of (is_history f) n v state lt e (places_less (is_history f) v n lt e))
      one v lt false e = ap (λ r. Share (if c == r then k.one else k.zero)) (sym (rank_size f v))

  column_is : (c : ℕ) → column_after k rows c history args ≡ step_column k algebra f c state args
  column_is c =
      let args' = map (λ w. Fixed w) args in
      let dom = parts (column_shares k d c) algebra in
      ap (λ z. run_code (parts (column_shares k z c) rows.algebra) rows.code.instrs args' (map (first_part k c history) rows.origins) [])
      dim ∙ ap (λ z. run_code (parts (column_shares k d c) z) rows.code.instrs args' (map (first_part k c history) rows.origins) []) ea
      ∙ ap (λ z. run_code dom z args' (map (first_part k c history) rows.origins) []) ei
      ∙ ap (λ z. run_code dom (fold_instrs f) args' z []) (start_is c)
      ∙ code_runs dom args' n (fold_block f) (list_of n (first_column k algebra f c state))
      (length-list_of n (first_column k algebra f c state))

  -- the part of a variable at the end of a column
  part_is : (c v : ℕ) → get_or (column_after k rows c history args) v (Fixed 0) ≡ column_of c
      (at (parts (row_shares k d) algebra) (step_rows k algebra f state args) v)
  part_is c v = ap (λ z. get_or z v (Fixed 0)) (column_is c ∙ step_column_is k algebra f c state args)
      ∙ sym (get_or-map (column_of c) (step_rows k algebra f state args) v (Fixed 0))

  abbrev row : ℕ → ℕ → C
  row i = share_of (row_shares k d) (at (parts (row_shares k d) algebra) (step_rows k algebra f state args)
      (slice_index (linear_places f) i))

  entry_is : (i c : ℕ) → entry_of k rows history args i c ≡ row i c
  entry_is i c =
      ap (λ z. share_of (column_shares k z c) (get_or (column_after k rows c history args) (slice_index rows.linear i) (Fixed 0))) dim
      ∙ ap (λ z. share_of (column_shares k d c) (get_or (column_after k rows c history args) (slice_index z i) (Fixed 0))) el
      ∙ ap (share_of (column_shares k d c)) (part_is c (slice_index (linear_places f) i))
      ∙ share_column k d c (at (parts (row_shares k d) algebra) (step_rows k algebra f state args) (slice_index (linear_places f) i))

  table_is : (i c : ℕ) → i < d → c ≤ d → table_of from_words size d map' i c ≡ row i c
  table_is i c hi hc =
      let hi' : i < rows_dimension rows = omega (arith, dim) in
      let hc' : c ≤ rows_dimension rows = omega (arith, dim) in
      ap (λ z. from_words (stored_entry size z map' i c)) (sym dim)
      ∙ ap from_words (leaves.entries i c hi' hc') ∙ load_store (entry_of k rows history args i c) ∙ entry_is i c

  abbrev place : ℕ → ℕ
  place i = slice_index (linear_places f) i

  linear_size : d ≡ length (linear_places f)
  linear_size = rank_size f n

  place_in : (i : ℕ) → i < d → place i < n
  place_in i h = (placed (λ v. not (is_history f v)) n i (omega (arith, linear_size))).0

  linear_step : (i : ℕ) → i < d → k.to_word (map_apply k d (table_of from_words size d map') (λ j. k.embed (x j)) i) ≡ slice_index
      (words_at (body f state args) (linear_places f)) i
  linear_step i h =
      let T = table_of from_words size d map' in
      let inside : i < length (linear_places f) = omega (arith, linear_size) in
      ap k.to_word (ap (λ z. k.add z (T i d)) (sum_same laws d (λ j. k.mul (T i j) (k.embed (x j))) (λ j. k.mul (row i j) (k.embed (x j)))
      (λ j hj. ap (λ z. k.mul z (k.embed (x j))) (table_is i j h (omega arith))))
      ∙ ap (k.add (sum_below k d (λ j. k.mul (row i j) (k.embed (x j))))) (table_is i d h (omega arith)))
      ∙ step.value (place i) (place_in i h) ∙ sym (map_at (slice_index (body f state args)) (linear_places f) i inside)

  has_word : (i : ℕ) → i < d → HasWord k d (table_of from_words size d map' i)
  has_word i h =
      let r = step.has_word (place i) (place_in i h) in
      (r.0, r.1, subst (IsWordOf k) (sym (table_is i r.0 h r.1)) r.2)

  history_step : words_at (body f state args) (history_places f) ≡ history'
  history_step = ext_get_or 0 (words_at (body f state args) (history_places f)) history'
      (length-map (slice_index (body f state args)) (history_places f) ∙ sym (leaves.long ∙ ap (λ l. length l) eh))
      (λ i lt. one i (omega (arith, lt, length-map (slice_index (body f state args)) (history_places f))))
    where
      one : (i : ℕ) → i < length (history_places f) → slice_index (words_at (body f state args) (history_places f)) i ≡ slice_index history'
          i
      one i h =
          let v = slice_index (history_places f) i in
          let r = placed (is_history f) n i h in
          let h' : i < length rows.history = omega (arith, ap (λ l. length l) eh) in
          map_at (slice_index (body f state args)) (history_places f) i h ∙ sym (leaves.kept i h'
          ∙ ap (λ z. fixed_word (get_or (column_after k rows (rows_dimension rows) history args) (slice_index z i) (Fixed 0))) eh
          ∙ ap fixed_word (part_is (rows_dimension rows) v)
          ∙ ap (λ p. fixed_word (column_of (rows_dimension rows) p)) (step.history v r.0 r.1))

  pub step_from : IsStepFrom k from_words size f state args map' history'
  step_from = record { linear = linear_step; has_word = has_word; history = history_step }
