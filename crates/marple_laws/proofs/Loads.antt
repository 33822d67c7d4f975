-- All that the text of a query's plan says agrees with the query.
use Rattle.marple_laws.proofs.Words.{◌≡◌, None, subst, TypedQuery, IsValidQuery, IsPlanOf, PlanParts, IsSoundPlan, says_one, makes_one}
use Rattle.marple_laws.proofs.{Words.{final_fault, IsAsTheQuery, LoadsAsTheQuery, HasPlanText}, FieldSets.one_reading, Runs.one_output}
use Rattle.marple_laws.proofs.Says.{text_says}

pub loads : (q : TypedQuery) (p : PlanParts) → IsValidQuery q → HasPlanText q → IsPlanOf q p → IsSoundPlan p → final_fault q ≡ None
    → LoadsAsTheQuery q
loads q p valid text plan sound none = record {
  valid = text_says q p valid text plan sound;
  only = λ made says. subst (IsAsTheQuery q) (says_one makes_one _ _ _ (text_says q p valid text plan sound)
      says) (record { reads = one_reading q; prints = λ g packets whole. one_output q p valid plan sound g packets whole none });
}
