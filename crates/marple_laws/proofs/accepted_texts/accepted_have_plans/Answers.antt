use Rattle.marple_laws.proofs.PlanOf.{have_plans}
use Rattle.marple_laws.proofs.accepted_texts.accepted_have_plans.Goals as goal

pub returns : goal.returns
returns c = have_plans
