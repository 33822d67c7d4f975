use Rattle.additive_laws.proofs.Adding.{step_adds}
use Rattle.additive_laws.proofs.folds.additive_step_adds.Goals as goal

pub returns : goal.returns
returns c = step_adds
