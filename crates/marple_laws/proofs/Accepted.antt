-- The text of an accepted query's plan says what the query does.
use Rattle.marple_laws.proofs.{Words.{accepted_valid, AcceptedLoadAsQueries}, Loads.loads, Hold.plan_texts, PlanOf.accepted_put}

pub accepted_load : AcceptedLoadAsQueries
accepted_load text q e none =
    let plan = accepted_put _ e in
    loads q _ (accepted_valid text q e) (plan_texts text q e none) plan.is_plan plan.is_sound none
