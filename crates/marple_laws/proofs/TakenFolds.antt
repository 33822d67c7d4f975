-- Each groupby of a valid query has a fold, which is the one that it takes its tuples for.
use Rattle.marple_laws.proofs.Words
use Words.{◌≡◌, ℕ, ◌<◌, length, Some, ap, ◌∙◌, inl, inr, arith, refl, option_map, slice_get_cases, slice_get-map, TypedFold, TypedQuery}
use Words.{Taking, takings, IsValidQuery, fold_at, fold_found}
use Rattle.std.specs.Prelude.{map, slice_get}

-- what a groupby takes, and the fold that takes it
pub record TakenFold (q : TypedQuery) (i : ℕ) : Type 0 where
  pub taking : Taking
  pub taken : slice_get (takings q.streams) i ≡ Some taking
  pub fold : TypedFold
  pub found : slice_get q.folds taking.fold_number ≡ Some fold
  pub at : fold_at q i ≡ Some fold

pub taken_fold : {q : TypedQuery} → IsValidQuery q → {i : ℕ} → i < length (takings q.streams) → TakenFold q i
taken_fold {q} valid {i} inside = elim ((slice_get_cases (takings q.streams) i).1) [
  | inl found ↦
      let t : Taking = found.0 in
      let number = fold_found q (map (λ t. t.fold_number) (takings q.streams)) i t.fold_number valid refl
      (slice_get-map (λ (t : Taking). t.fold_number) (takings q.streams) i
      ∙ ap (option_map (λ (t : Taking). t.fold_number)) found.2) in
      elim ((slice_get_cases q.folds t.fold_number).1) [
        | inl fold ↦ record { taking = t; taken = found.2; fold = fold.0; found = fold.2; at = number.fold fold.0 fold.2 }
        | inr past ↦ absurd (omega (arith, past.0, number.within))
      ]
  | inr past ↦ absurd (omega (arith, past.0, inside))
]
