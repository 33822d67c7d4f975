-- Lines of names and last words that are written in sequence.
use Rattle.std.proofs.Common.{◌≡◌, ℕ, ◌≤◌, List, [], ◌∷◌, ◌++◌, length, drop, map, min, sym, ap, ◌∙◌, arith, append-nil, refl, inl, inr}
use Rattle.std.proofs.lemmas.{List.drop_all, Bool.cases_lt}
use Rattle.plan_writer.specs.PlanText.{named_lines}

no_names : (word : List ℕ) (lasts : List (List ℕ)) → named_lines word [] lasts ≡ []
no_names word [] = refl
no_names word (last ∷ lasts) = refl

no_lasts : (word : List ℕ) (names : List (List ℕ)) → named_lines word names [] ≡ []
no_lasts word [] = refl
no_lasts word (name ∷ names) = refl

-- and all are written
pub named_end : {A : Type 0} (said : A → List ℕ) (word : List ℕ) (names : List (List ℕ)) (values : List A) (i : ℕ) (t1 t2 : List ℕ) →
    min (length names) (length values) ≤ i → t1 ++ named_lines word (drop i names) (map said (drop i values)) ≡ t2 → t1 ≡ t2
named_end said word names values i t1 t2 le e = sym (append-nil t1) ∙ ap (λ l. t1 ++ l) (sym none) ∙ e
  where
    none : named_lines word (drop i names) (map said (drop i values)) ≡ []
    none = elim (cases_lt i (length names)) [
      | inr few ↦ ap (λ l. named_lines word l (map said (drop i values))) (drop_all i names few) ∙ no_names word (map said (drop i values))
      | inl more ↦ (let short : length values ≤ i = omega (arith, le, more) in ap (λ l. named_lines word (drop i names) (map said l))
          (drop_all i values short) ∙ no_lasts word (drop i names))
    ]
