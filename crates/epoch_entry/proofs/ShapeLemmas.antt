-- The parts of a fold's program fit together.
use Rattle.std.proofs.Common.{◌≡◌, ◌≢◌, ℕ, zero, suc, ◌<◌, ◌≤◌, Bool, true, false, not, nat_lt, if◌then◌else◌, List, [], ◌∷◌, ◌++◌, length}
use Rattle.std.proofs.{Common.{slice_index, All, refl, sym, ap, ◌∙◌, subst, arith, length-append}, Math.Logic.{∥∥₁_elim}, Props.props}
use Rattle.std.proofs.lemmas.{Bool.Decides.nat_tests, List.{get_or_append_left, get_or_push}}
use Rattle.query_lang.specs.{declared.fold.TypedFold.TypedFold, Folds.fold_states}
use Rattle.fold_class.specs.{declared.program.FoldProgram.FoldProgram, Depth.is_history, Step.{places, history_places}}
use Rattle.fold_class.{specs.Program.{IsProgram, IsProgramOf}, proofs.{DepthLemmas.history_rounds, PlaceLemmas.{placed, both_sorts}}}
use Rattle.epoch_entry.{specs.Shape.{IsShaped, IsAscending}, proofs.FoldLemmas.default_free}

places_ascend : (p : ℕ → Bool) (n : ℕ) → IsAscending (places p n)
places_ascend p zero i j lt h = absurd (omega arith)
places_ascend p (suc n) i j lt h = at (places_ascend p n) (p n) refl h
  where
    at : IsAscending (places p n) → (b : Bool) → p n ≡ b → j < length (if b then places p n ++ n ∷ [] else places p n) →
        slice_index (if b then places p n ++ n ∷ [] else places p n) i < slice_index (if b then places p n ++ n ∷ [] else places p n) j
    at front false eb h = front i j lt h
    at front true eb h = last _ refl
      where
        last : (l : Bool) → nat_lt j (length (places p n)) ≡ l → slice_index (places p n ++ n ∷ []) i < slice_index (places p n ++ n ∷ []) j
        last true t =
            let lj : j < length (places p n) = grind (arith, nat_tests) in
            let ei =
            get_or_append_left (places p n) (n ∷ []) 0 i (omega arith) in
            let ej = get_or_append_left (places p n) (n ∷ []) 0 j lj in
            omega (arith, ei, ej, front i j lt lj)
        last false t =
            let ge : length (places p n) ≤ j = grind (arith, nat_tests) in
            let same : length (places p n) ≡ j = omega (arith, ge, h, length-append (places p n) (n ∷ [])) in
            let li : i < length (places p n) = omega arith in
            let ei = get_or_append_left (places p n) (n ∷ []) 0 i li in
            let ej = get_or_push _ n 0 j same in
            omega (arith, ei, ej, (placed p n i li).0)

places_inside : (p : ℕ → Bool) (n m : ℕ) → n ≡ m → All (λ v. v < m) (places p n)
places_inside p n m e i d h = omega (arith, default_free _ i d h, (placed p n i h).0)

sorts_apart : (q : ℕ → Bool) (n i j : ℕ) → i < length (places q n) → j < length (places (λ v. not (q v)) n)
    → slice_index (places q n) i ≢ slice_index (places (λ v. not (q v)) n) j
sorts_apart q n i j hi hj same =
    let on : q (slice_index (places q n) i) ≡ true = (placed q n i hi).1 in
    let off : not (q (slice_index (places (λ v. not (q v)) n) j)) ≡ true = (placed (λ v. not (q v)) n j hj).1 in
    never _ (sym (ap q same) ∙ on) off
  where
    never : (b : Bool) → b ≡ true → not b ≡ true → ⊥
    never true e h = cc
    never false e h = cc

abbrev AreApart : List ℕ → List ℕ → Type 0
AreApart history linear = (i j : ℕ) → i < length history → j < length linear → slice_index history i ≢ slice_index linear j

pub shape_of : (f : TypedFold) (p : FoldProgram) → IsProgramOf f p → IsShaped p
shape_of f p h =
    let states : length p.layout.initial ≡ fold_states f = ap (λ l. length l) h.layout.initial ∙ h.valid.starts in record {
      code_states = h.code.states ∙ sym states;
      code_args = h.code.args ∙ sym h.layout.args;
      rows_args = h.rows.args ∙ sym h.layout.args;
      rows_linear = h.rows.linear ∙ sym h.layout.linear;
      rows_history = h.rows.history ∙ sym h.layout.history;
      sorts = omega (
        arith,
        states,
        ap (λ l. length l) h.layout.linear,
        ap (λ l. length l) h.layout.history,
        both_sorts (is_history f)
            (fold_states f),
      );
      states = omega (arith, states, h.valid.states);
      args = omega (arith, h.layout.args, h.valid.args);
      depth = omega (arith, h.depth.least (fold_states f) (λ v lt w. history_rounds f v lt w), h.valid.states);
      linear_inside = subst (λ l. All (λ v. v < length p.layout.initial) l) (sym h.layout.linear)
          (places_inside (λ v. not (is_history f v)) (fold_states f) (length p.layout.initial) (sym states));
      history_inside = subst (λ l. All (λ v. v < length p.layout.initial) l) (sym h.layout.history)
          (places_inside (is_history f) (fold_states f) (length p.layout.initial) (sym states));
      linear_ascends = subst IsAscending (sym h.layout.linear) (places_ascend (λ v. not (is_history f v)) (fold_states f));
      history_ascends = subst IsAscending (sym h.layout.history) (places_ascend (is_history f) (fold_states f));
      apart = subst (λ l. AreApart l p.layout.linear) (sym h.layout.history)
          (subst (λ l. AreApart (history_places f) l) (sym h.layout.linear) (sorts_apart (is_history f) (fold_states f)));
    }

pub program_shaped : (p : FoldProgram) → IsProgram p → IsShaped p
program_shaped p is = ∥∥₁_elim is (hlevel props) (λ h. shape_of _ p h.1)
