-- What the pipeline that a command leaves represents.
use Rattle.marple_laws.proofs.Words
use Words.{◌≡◌, ℕ, List, [], ◌∷◌, length, map, drop, refl, ap, ap₂, subst, Geometry, end_of, Folded, Made, uses_in, geometry_of, GroupPlan}
use Words.{PlanParts, PipelineStands, end_machines, ends_from}
use Rattle.marple_laws.specs.Left.{PlansStandForTheirTexts, text_ends, words_for}
use Rattle.plan_loader.{specs.Parts.{AreGroupsFrom, IsPlanFrom}, proofs.SameUses.uses_same}
use Rattle.query_run.proofs.QueryEnds.{first_at}

module _ (made : Made) (plan : PlanParts) (from : IsPlanFrom made plan) (g : Geometry) (list : List (List ℕ)) where
  ends_at : (i : ℕ) (ones : List Folded) (groups : List GroupPlan) → drop i made.groups ≡ ones → AreGroupsFrom ones groups
      → ends_from plan g list i groups ≡ map (λ one. end_of g (uses_in made one list) (length list)) ones
  ends_at i [] [] e zip = refl
  ends_at i (one ∷ ones) (group ∷ groups) e zip =
      let at = first_at _ i _ _ e in
      ap₂ (λ m ms. m ∷ ms) (ap (λ uses. end_of g uses (length list)) (uses_same made plan from i _ at.0 list)) (ends_at _ _ _ at.1 zip.1)
  ends_at i _ _ e zip = absurd zip

  -- so the plan's machines at the end are those of the text's groups
  pub ends_same : end_machines plan g list ≡ text_ends made g list
  ends_same = ends_at 0 _ _ refl from.groups

pub stand_for_texts : PlansStandForTheirTexts
stand_for_texts setting made trace p stands =
    subst (PipelineStands p) (ends_same made p.plan stands.0 (geometry_of setting) (words_for made trace)) stands.1
