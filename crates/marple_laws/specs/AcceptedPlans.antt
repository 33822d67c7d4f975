-- What holds of the plans of accepted queries, and of their texts.
use Rattle.std.specs.Prelude.{◌≡◌, ℕ, List, Ok, None}
use Rattle.query_lang.specs.declared.typed.TypedQuery.{TypedQuery}
use Rattle.accepted_query.specs.Accepted.{accepted}
use Rattle.plan_writer.specs.PlanText.{final_fault}
use Rattle.stage_plan.specs.{Planned.IsPlanOf, Sound.IsSoundPlan}
use Rattle.marple_laws.specs.{RunLaws.LoadsAsTheQuery, WellNamed.HasPlanText, PlanOf.plan_of}

-- The query of an accepted text has a plan.
pub record AcceptedHavePlans : Type 0 where
  pub is_plan : (text : List ℕ) (q : TypedQuery) → accepted text ≡ Ok q → IsPlanOf q (plan_of q)
  pub is_sound : (text : List ℕ) (q : TypedQuery) → accepted text ≡ Ok q → IsSoundPlan (plan_of q)

-- The query of an accepted text without finals has a plan's text.
abbrev pub AcceptedHavePlanTexts : Type 0
AcceptedHavePlanTexts = (text : List ℕ) (q : TypedQuery) → accepted text ≡ Ok q → final_fault q ≡ None → HasPlanText q

-- The text of its plan is valid, and all that it says agrees with the query.
abbrev pub AcceptedLoadAsQueries : Type 0
AcceptedLoadAsQueries = (text : List ℕ) (q : TypedQuery) → accepted text ≡ Ok q → final_fault q ≡ None → LoadsAsTheQuery q
