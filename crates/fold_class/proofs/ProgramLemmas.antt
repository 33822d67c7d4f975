-- The rows that are made of a fold's code and the places of its variables are the fold's rows.
use Rattle.std.proofs.Common.{◌≡◌, ℕ, zero, suc, ◌+◌, ◌*◌, ◌<◌, ◌≤◌, Bool, true, false, not, ◌||◌, if◌then◌else◌, List, [], ◌∷◌, length}
use Rattle.std.proofs.{Common.{get_or, slice_index, All, refl, sym, ap, ◌∙◌, subst, arith}, Math.Nat.{mul-le-mul_left, mul-le-mul_right}}
use Rattle.query_lang.specs.declared.{fold.TypedFold.TypedFold, typed.Class.{Class, TheVariants.Linear}}
use Rattle.query_lang.specs.Folds.{fold_states, fold_block, IsValidFold}
use Rattle.fold_code.{specs.{Code.fold_instrs, Machine.steps_of, Meaning.IsCodeOf}, proofs.FitLemmas.length-block_code}
use Rattle.fold_code.proofs.Meanings.{fold_size}
use Rattle.coeff_algebra.specs.{WrappingModel.{wrapping_words, wrapping_from_words}, WrappingLaws.wrapping_storage}
use Rattle.coeff_algebra.specs.{MaxPlusModel.{max_plus_words, max_plus_from_words}, MaxPlusLaws.max_plus_storage}
use Rattle.fold_class.specs.{declared.class.Algebra.{Algebra, TheVariants.{Sums, Maxima}}, Depth.is_history}
use Rattle.fold_class.specs.{Kinds.{is_linear_by, class_of, algebra_of}, Step.{places, linear_places, history_places}}
use Rattle.fold_class.specs.Rows.{Rows, Remembered, Carried, rows_steps, element_size, leaves_in, IsWithin, AreSoundRows}
use Rattle.fold_class.{specs.Program.{origin_of, origins_of, WritesAlgebra, IsRowsOf}, proofs.StepLemmas.{length-list_of, list_of_at}}
use Rattle.fold_class.proofs.AlgebraLaws.{sums_laws, maxima_laws, sums_are, maxima_are}
use Rattle.fold_class.proofs.{PlaceLemmas.{places_less, places_most, placed, both_sorts}, RowsOf.step_from}

default_free : (xs : List ℕ) (i d : ℕ) → i < length xs → get_or xs i d ≡ slice_index xs i
default_free [] i d h = absurd (omega arith)
default_free (x ∷ xs) zero d h = refl
default_free (x ∷ xs) (suc i) d h = default_free xs i d (omega arith)

-- the places of variables are below their number
all_placed : (p : ℕ → Bool) (n m : ℕ) → n ≡ m → All (λ v. v < m) (places p n)
all_placed p n m e i d h = omega (arith, default_free (places p n) i d h, (placed p n i h).0)

bound : (algebra : Algebra) (n d h s steps : ℕ) → d + h ≡ n → steps ≤ s → (d + 1) * (n + steps + d * element_size algebra) + h ≤ (n + 1) * s
    + 2 * element_size algebra * (n + 1) * (n + 1)
bound Sums n d h s steps e le =
    let inner : n + steps + d * 1 ≤ n + s + n * 1 = omega arith in
    let outer : d + 1 ≤ n + 1 = omega arith in
    omega (arith, mul-le-mul_left (d + 1) inner, mul-le-mul_right (n + s + n * 1) outer)
bound Maxima n d h s steps e le =
    let inner : n + steps + d * 2 ≤ n + s + n * 2 = omega arith in
    let outer : d + 1 ≤ n + 1 = omega arith in
    omega (arith, mul-le-mul_left (d + 1) inner, mul-le-mul_right (n + s + n * 2) outer)

module _ (f : TypedFold) (rows : Rows) (valid : IsValidFold f) (ec : IsCodeOf f rows.code) (ei : rows.code.instrs ≡ fold_instrs f)
    (ea : rows.algebra ≡ algebra_of f)
    (eo : rows.origins ≡ origins_of f) (el : rows.linear ≡ linear_places f) (eh : rows.history ≡ history_places f) where
  origins_long : length rows.origins ≡ fold_states f
  origins_long = ap (λ l. length l) eo ∙ length-list_of (fold_states f) (origin_of f)

  each_within : All (IsWithin (length rows.history)) (origins_of f)
  each_within i d h =
      let lt : i < fold_states f = omega (arith, length-list_of (fold_states f) (origin_of f)) in
      subst (IsWithin (length rows.history)) (sym (list_of_at (fold_states f) (origin_of f) i d lt)) (one lt (is_history f i) refl)
    where
      one : i < fold_states f → (b : Bool) → is_history f i ≡ b → IsWithin (length rows.history)
          (if b then Remembered (length (places (is_history f) i)) else Carried (length (places (λ v. not (is_history f v)) i)))
      one lt true e = omega (arith, places_less (is_history f) i (fold_states f) lt e, ap (λ l. length l) eh)
      one lt false e = tt

  pub sound_rows : AreSoundRows rows
  sound_rows = record {
    each = origins_long ∙ sym ec.states;
    within = subst (λ l. All (IsWithin (length rows.history)) l) (sym eo) each_within;
    linear = subst (λ l. All (λ v. v < rows.code.states) l) (sym el) (all_placed (λ v. not (is_history f v)) (fold_states f)
        rows.code.states (sym ec.states));
    history = subst (λ l. All (λ v. v < rows.code.states) l) (sym eh) (all_placed (is_history f) (fold_states f) rows.code.states
        (sym ec.states));
    few = omega (arith, ap (λ l. length l) el, places_most (λ v. not (is_history f v)) (fold_states f), valid.states);
    short = omega (
      arith,
      origins_long,
      ap (λ l. length l) ei,
      length-block_code (fold_states f) (fold_block f) 0 1,
      fold_size f valid,
      valid.states,
    );
  }

  writes : class_of f ≡ Linear → WritesAlgebra (algebra_of f) f rows
  writes h = pick (is_linear_by Sums f) refl (is_linear_by Maxima f) refl h ea
    where
      pick : (a : Bool) → is_linear_by Sums f ≡ a → (b : Bool) → is_linear_by Maxima f ≡ b
          → (if a || b then Linear else Class.Other) ≡ Linear → rows.algebra ≡ (if a then Sums else (if b then Maxima else Sums)) →
          WritesAlgebra (if a then Sums else (if b then Maxima else Sums)) f rows
      pick true la b lb h er = λ history args map' history' state st al aw leaves.
          step_from sums_laws Sums sums_are wrapping_words wrapping_from_words 1 wrapping_storage.load_store f rows valid la ei er eo el eh
          history args map' history' state st al aw (subst (λ z. leaves_in z rows history args map' history') er leaves)
      pick false la true lb h er = λ history args map' history' state st al aw leaves.
          step_from maxima_laws Maxima maxima_are max_plus_words max_plus_from_words 2 max_plus_storage.load_store f rows valid lb ei er eo
          el eh history args map' history' state st al aw (subst (λ z. leaves_in z rows history args map' history') er leaves)
      pick false la false lb h er = cc

  pub rows_are : IsRowsOf f rows
  rows_are = record {
    algebra = ea;
    args = ec.args;
    linear = el;
    history = eh;
    writes = writes;
    steps =
        let sorts : length rows.linear + length rows.history ≡ fold_states f =
        omega (arith, ap (λ l. length l) el, ap (λ l. length l) eh, both_sorts (is_history f) (fold_states f)) in
        subst (λ a. rows_steps rows ≤ (fold_states f + 1) * (f.nodes + 4 * f.statements + 1) + 2 * element_size a * (fold_states f + 1)
        * (fold_states f + 1)) ea
        (subst (λ n. (length rows.linear + 1) * (n + steps_of rows.code.instrs + length rows.linear * element_size rows.algebra)
        + length rows.history ≤ (fold_states f + 1) * (f.nodes + 4 * f.statements + 1) + 2 * element_size rows.algebra * (fold_states f + 1)
        * (fold_states f + 1)) (sym origins_long)
        (bound rows.algebra (fold_states f) (length rows.linear) (length rows.history) (f.nodes + 4 * f.statements + 1)
        (steps_of rows.code.instrs) sorts ec.steps));
  }
