-- The rows of a step represent the state after the body.
use Rattle.std.proofs.Common.{◌≡◌, ◌≢◌, ℕ, zero, suc, ◌+◌, ◌-◌, ◌<◌, ◌≤◌, Bool, true, false, ◌==◌, nat_lt, if◌then◌else◌, List, [], ◌∷◌}
use Rattle.std.proofs.Common.{◌++◌, map, length, get_or, slice_index, refl, sym, ap, ◌∙◌, subst, arith, length-append}
use Rattle.std.proofs.lemmas.{Bool.Decides.nat_tests, List.{get_or_append_left, get_or-append_right, get_or_push}}
use Rattle.query_lang.specs.{declared.fold.{TypedFold.TypedFold, Op.TheVariants.Add}, Words.IsWord}
use Rattle.query_lang.specs.Folds.{body, fold_states, fold_args, fold_block}
use Rattle.fold_code.{specs.Machine.{Domain, at}, proofs.Runs.length-after}
use Rattle.coeff_algebra.specs.{Elements.{Elements, ElementLaws, IsWordOf}, Maps.{sum_below, HasWord}}
use Rattle.coeff_algebra.proofs.MapLemmas.{sum_same, sum_nothing}
use Rattle.fold_class.specs.{declared.class.{Algebra.Algebra, Kind.{Kind, TheVariants.{Pure, Affine}}}, Depth.is_history}
use Rattle.fold_class.specs.Kinds.{kinds_first, fold_kinds, is_no_other, is_linear_by}
use Rattle.fold_class.specs.{Parts.{Part, Fixed, Share, Lost, parts, row_shares, row_value, StandsFor, IsAlgebraOf}, Fitting.Allows}
use Rattle.fold_class.specs.{Step.{list_of, rank, dimension, first_row, step_rows, share_of}, StepMap.{Fitting, IsStepOf}}
use Rattle.fold_class.proofs.{TableLemmas.below_at, PartLemmas.{lift_stands, lift_has}, PartRuns.{AllStand, live_stands}}
use Rattle.fold_class.proofs.{KindLemmas.{AllAllowed, live_allowed}, HistoryKinds.history_pure}

pub length-list_of : {A : Type 0} (n : ℕ) (f : ℕ → A) → length (list_of n f) ≡ n
length-list_of zero f = refl
length-list_of (suc n) f = omega (arith, length-append (list_of n f) (f n ∷ []), length-list_of n f)

pub list_of_at : {A : Type 0} (n : ℕ) (f : ℕ → A) (i : ℕ) (d : A) → i < n → get_or (list_of n f) i d ≡ f i
list_of_at zero f i d h = absurd (omega arith)
list_of_at (suc n) f i d h = place (λ lt. list_of_at n f i d lt) (nat_lt i n) refl
  where
    place : (i < n → get_or (list_of n f) i d ≡ f i) → (b : Bool) → nat_lt i n ≡ b → get_or (list_of n f ++ f n ∷ []) i d ≡ f i
    place front true t =
        let lt : i < n = grind (arith, nat_tests) in
        let inside : i < length (list_of n f) = omega (arith, lt, length-list_of n f) in
        get_or_append_left (list_of n f) (f n ∷ []) d i inside ∙ front lt
    place front false t =
        let same : n ≡ i = grind (arith, nat_tests) in
        get_or_push (list_of n f) (f n) d i (length-list_of n f ∙ same) ∙ ap f same

rank_more : (f : TypedFold) (v n : ℕ) → v ≤ n → rank f v ≤ rank f n
rank_more f v zero h = let e : v ≡ 0 = omega arith in subst (λ w. rank f w ≤ rank f 0) (sym e) (omega arith)
rank_more f v (suc n) h = place (λ le. rank_more f v n le) (nat_lt v (suc n)) refl
  where
    place : (v ≤ n → rank f v ≤ rank f n) → (b : Bool) → nat_lt v (suc n) ≡ b → rank f v ≤ rank f n + (if is_history f n then 0 else 1)
    place front true t = let le : v ≤ n = grind (arith, nat_tests) in omega (arith, front le)
    place front false t = let e : suc n ≡ v = grind (arith, nat_tests) in subst
        (λ w. rank f w ≤ rank f n + (if is_history f n then 0 else 1)) e (omega arith)

rank_inside : (f : TypedFold) (v : ℕ) → v < fold_states f → is_history f v ≡ false → rank f v < dimension f
rank_inside f v lt e =
    let one : rank f (suc v) ≡ rank f v + 1 = ap (λ b. rank f v + (if b then 0 else 1)) e in
    omega (arith, one, rank_more f (suc v) (fold_states f) (omega arith))

module _ {C : Type 0} {is_element : C → Type 0} {k : Elements C} (laws : ElementLaws is_element k) where
  add_zero : (e : C) → is_element e → k.add e k.zero ≡ e
  add_zero e h = laws.add_comm e k.zero ∙ laws.zero_add e h

  sum_single : (n : ℕ) (f : ℕ → C) (i : ℕ) (e : C) → i < n → is_element e → f i ≡ e → ((j : ℕ) → j ≢ i → f j ≡ k.zero) → sum_below k n f ≡ e
  sum_single zero f i e lt h own rest = absurd (omega arith)
  sum_single (suc n) f i e lt h own rest = place (λ less. sum_single n f i e less h own rest) (nat_lt i n) refl
    where
      place : (i < n → sum_below k n f ≡ e) → (b : Bool) → nat_lt i n ≡ b → k.add (sum_below k n f) (f n) ≡ e
      place front true t =
          let less : i < n = grind (arith, nat_tests) in
          let off : n ≢ i = omega arith in
          ap (k.add (sum_below k n f)) (rest n off) ∙ ap (λ z. k.add z k.zero) (front less) ∙ add_zero e h
      place front false t =
          let same : n ≡ i = grind (arith, nat_tests) in
          ap (λ z. k.add z (f n)) (sum_same laws n f (λ j. k.zero) (λ j less. rest j (omega arith)) ∙ sum_nothing laws n)
          ∙ ap (k.add k.zero) (ap f same ∙ own) ∙ laws.zero_add e h

  pub unit_value : (n r : ℕ) (x : ℕ → ℕ) → r < n → IsWord (x r) → row_value k n x (λ c. if c == r then k.one else k.zero) ≡ x r
  unit_value n r x lt h =
      let s = laws in
      let on : (r == r) ≡ true = grind (arith, nat_tests) in
      let off : (n == r) ≡ false = grind (arith, nat_tests) in
      let own : k.mul (if r == r then k.one else k.zero) (k.embed (x r)) ≡ k.embed (x r) =
      ap (λ b. k.mul (if b then k.one else k.zero) (k.embed (x r))) on ∙ s.one_mul (k.embed (x r)) (laws.embed_is (x r) h) in
      let rest : (j : ℕ) → j ≢ r → k.mul (if j == r then k.one else k.zero) (k.embed (x j)) ≡ k.zero =
      λ j ne. let out : (j == r) ≡ false = grind (arith, nat_tests) in ap (λ b. k.mul (if b then k.one else k.zero) (k.embed (x j))) out
      ∙ s.zero_mul (k.embed (x j)) in
      ap k.to_word
      (ap (λ z. k.add z (if n == r then k.one else k.zero)) (sum_single n (λ j. k.mul (if j == r then k.one else k.zero) (k.embed (x j))) r
      (k.embed (x r)) lt (laws.embed_is (x r) h) own rest) ∙ ap (λ b. k.add (k.embed (x r)) (if b then k.one else k.zero)) off
      ∙ add_zero (k.embed (x r)) (laws.embed_is (x r) h)) ∙ laws.to_word-embed (x r)

  pub unit_has : (n r : ℕ) → r < n → HasWord k n (λ c. if c == r then k.one else k.zero)
  unit_has n r lt =
      let on : (r == r) ≡ true = grind (arith, nat_tests) in
      let is_one : k.one ≡ (if r == r then k.one else k.zero) = sym (ap (λ b. if b then k.one else k.zero) on) in
      (r, omega arith, subst (IsWordOf k) is_one laws.one_word)

  module _ (algebra : Algebra) (alg : IsAlgebraOf algebra k) (f : TypedFold) (state args : List ℕ) (x : ℕ → ℕ)
      (fit : Fitting f state args x) where
    abbrev n : ℕ
    n = fold_states f

    abbrev d : ℕ
    d = dimension f

    abbrev dom : Domain (Part (ℕ → C))
    dom = parts (row_shares k d) algebra

    abbrev fargs : List (Part (ℕ → C))
    fargs = map (λ w. Fixed w) args

    abbrev first : List (Part (ℕ → C))
    first = list_of n (first_row k algebra f state)

    abbrev fixed : ℕ → Part (ℕ → C)
    fixed w = Fixed w

    fixed_at : (ws : List ℕ) (i : ℕ) → get_or (map fixed ws) i (fixed 0) ≡ fixed (slice_index ws i)
    fixed_at [] i = refl
    fixed_at (w ∷ ws) zero = refl
    fixed_at (w ∷ ws) (suc i) = fixed_at ws i

    -- a slot at the start, as the first parts have it
    slot_first : (s : ℕ) → s < n → at dom (first ++ fargs) s ≡ first_row k algebra f state s
    slot_first s lt =
        let inside : s < length first = omega (arith, lt, length-list_of n (first_row k algebra f state)) in
        get_or_append_left first fargs (Fixed 0) s inside ∙ list_of_at n (first_row k algebra f state) s (Fixed 0) lt

    slot_argument : (s : ℕ) → n ≤ s → at dom (first ++ fargs) s ≡ Fixed (slice_index args (s - n))
    slot_argument s ge = get_or-append_right first fargs n s (Fixed 0) (length-list_of n (first_row k algebra f state)) ge
        ∙ fixed_at args (s - n)

    word_first : (s : ℕ) → s < n → slice_index (state ++ args) s ≡ slice_index state s
    word_first s lt = get_or_append_left state args 0 s (omega (arith, lt, fit.state_long))

    word_argument : (s : ℕ) → n ≤ s → slice_index (state ++ args) s ≡ slice_index args (s - n)
    word_argument s ge = get_or-append_right state args n s 0 fit.state_long ge

    row_stands : (s : ℕ) → s < n → (b : Bool) → is_history f s ≡ b → StandsFor k d x
        (if b then Fixed (slice_index state s) else Share (λ c. if c == rank f s then k.one else k.zero)) (slice_index state s)
    row_stands s lt true e = refl
    row_stands s lt false e =
        let inside = rank_inside f s lt e in
        let own = fit.linear s lt e in
        (unit_value d (rank f s) x inside (subst IsWord (sym own) (fit.state_words s)) ∙ own, unit_has d (rank f s) inside)

    start_stands : AllStand laws d x algebra alg (first ++ fargs) (state ++ args)
    start_stands = record { each = λ s. each_at s (nat_lt s n) refl; are_words = λ s. word_at s (nat_lt s n) refl }
      where
        each_at : (s : ℕ) (b : Bool) → nat_lt s n ≡ b → StandsFor k d x (at dom (first ++ fargs) s) (slice_index (state ++ args) s)
        each_at s true t =
            let lt : s < n = grind (arith, nat_tests) in
            subst (λ z. StandsFor k d x z (slice_index (state ++ args) s)) (sym (slot_first s lt))
            (subst (StandsFor k d x (first_row k algebra f state s)) (sym (word_first s lt)) (row_stands s lt (is_history f s) refl))
        each_at s false t =
            let ge : n ≤ s = grind (arith, nat_tests) in
            subst (λ z. StandsFor k d x z (slice_index (state ++ args) s)) (sym (slot_argument s ge)) (sym (word_argument s ge))

        word_at : (s : ℕ) (b : Bool) → nat_lt s n ≡ b → IsWord (slice_index (state ++ args) s)
        word_at s true t = let lt : s < n = grind (arith, nat_tests) in subst IsWord (sym (word_first s lt)) (fit.state_words s)
        word_at s false t = let ge : n ≤ s = grind (arith, nat_tests) in subst IsWord (sym (word_argument s ge)) (fit.args_words (s - n))

    kind_first : (s : ℕ) → s < n → (b : Bool) → Allows {A = ℕ → C} (if b then Pure else Affine)
        (if b then Fixed (slice_index state s) else Share (λ c. if c == rank f s then k.one else k.zero))
    kind_first s lt true = tt
    kind_first s lt false = tt

    start_allowed : AllAllowed (row_shares k d) algebra (kinds_first f) (first ++ fargs)
    start_allowed s = place (nat_lt s n) refl
      where
        place : (b : Bool) → nat_lt s n ≡ b → Allows (if nat_lt s n then (if is_history f s then Pure else Affine) else Pure)
            (at dom (first ++ fargs) s)
        place true t =
            let lt : s < n = grind (arith, nat_tests) in
            subst (λ b. Allows (if b then (if is_history f s then Pure else Affine) else Pure) (at dom (first ++ fargs) s)) (sym t)
            (subst (Allows (if is_history f s then Pure else Affine)) (sym (slot_first s lt)) (kind_first s lt (is_history f s)))
        place false t =
            let ge : n ≤ s = grind (arith, nat_tests) in
            subst (λ b. Allows (if b then (if is_history f s then Pure else Affine) else Pure) (at dom (first ++ fargs) s)) (sym t)
            (subst (Allows Pure) (sym (slot_argument s ge)) tt)

    abbrev last : List (Part (ℕ → C))
    last = step_rows k algebra f state args

    length-last : length last ≡ n
    length-last = length-after dom (Fixed 1) (fold_block f) fargs first ∙ length-list_of n (first_row k algebra f state)

    last_at : (v : ℕ) → v < n → at dom (last ++ fargs) v ≡ at dom last v
    last_at v lt = get_or_append_left last fargs (Fixed 0) v (omega (arith, lt, length-last))

    pub part_stands : (v : ℕ) → v < n → StandsFor k d x (at dom last v) (slice_index (body f state args) v)
    part_stands v lt =
        let r = live_stands laws d x algebra alg n (fold_args f) fargs args (fold_block f) first state fit.valid.statements
        (record { vars_long = length-list_of n (first_row k algebra f state); state_long = fit.state_long; stand = start_stands }) in
        subst (λ z. StandsFor k d x z (slice_index (body f state args) v)) (last_at v lt)
        (subst (StandsFor k d x (at dom (last ++ fargs) v)) (get_or_append_left (body f state args) args 0 v
        (omega (arith, lt, r.state_long))) (r.stand.each v))

    pub part_allowed : (v : ℕ) → v < n → Allows (fold_kinds algebra f v) (at dom last v)
    part_allowed v lt = subst (Allows (fold_kinds algebra f v)) (last_at v lt)
        (live_allowed (row_shares k d) algebra n (fold_args f) fargs (fold_block f) (kinds_first f) first fit.valid.statements
        (length-list_of n (first_row k algebra f state)) start_allowed v)

    not_lost : (kd : Kind) (p : Part (ℕ → C)) (v : ℕ) → is_no_other kd ≡ true → IsWord v → Allows kd p → StandsFor k d x p v
        → (row_value k d x (share_of (row_shares k d) p) ≡ v) × HasWord k d (share_of (row_shares k d) p)
    not_lost kd (Fixed w) v h hv a s = (lift_stands laws d x algebra alg Add w v hv s, lift_has laws d x w)
    not_lost kd (Share e) v h hv a s = s
    not_lost Pure Lost v h hv a s = absurd a
    not_lost Affine Lost v h hv a s = absurd a
    not_lost Kind.Other Lost v h hv a s = cc

    only_fixed : (kd : Kind) (p : Part (ℕ → C)) (v : ℕ) → kd ≡ Pure → Allows kd p → StandsFor k d x p v → p ≡ Fixed v
    only_fixed Pure (Fixed w) v h a s = ap (λ z. Fixed z) s
    only_fixed Pure (Share e) v h a s = absurd a
    only_fixed Pure Lost v h a s = absurd a
    only_fixed Affine p v h a s = cc
    only_fixed Kind.Other p v h a s = cc

    body_word : (v : ℕ) → v < n → IsWord (slice_index (body f state args) v)
    body_word v lt =
        let r = live_stands laws d x algebra alg n (fold_args f) fargs args (fold_block f) first state fit.valid.statements
        (record { vars_long = length-list_of n (first_row k algebra f state); state_long = fit.state_long; stand = start_stands }) in
        subst IsWord (get_or_append_left (body f state args) args 0 v (omega (arith, lt, r.state_long))) (r.stand.are_words v)

    pub is_step : is_linear_by algebra f ≡ true → IsStepOf k algebra f state args x
    is_step linear = record {
      value = λ v lt. (both v lt).0;
      has_word = λ v lt. (both v lt).1;
      history = λ v lt h. only_fixed (fold_kinds algebra f v) (at dom last v) (slice_index (body f state args) v)
          (history_pure algebra f v h) (part_allowed v lt) (part_stands v lt);
    }
      where
        both : (v : ℕ) → v < n → (row_value k d x (share_of (row_shares k d) (at dom last v)) ≡ slice_index (body f state args) v)
            × HasWord k d (share_of (row_shares k d) (at dom last v))
        both v lt = not_lost (fold_kinds algebra f v) (at dom last v) (slice_index (body f state args) v)
            (below_at n (λ v. is_no_other (fold_kinds algebra f v)) v lt linear) (body_word v lt) (part_allowed v lt) (part_stands v lt)
