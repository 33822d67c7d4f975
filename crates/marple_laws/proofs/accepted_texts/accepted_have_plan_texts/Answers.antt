use Rattle.marple_laws.proofs.Hold.{plan_texts}
use Rattle.marple_laws.proofs.accepted_texts.accepted_have_plan_texts.Goals as goal

pub returns : goal.returns
returns c = plan_texts
