use Rattle.enclosure_folds.proofs.Enclosure.{keeps_step}
use Rattle.enclosure_folds.proofs.monotone_laws.step_keeps_order.Goals as goal

pub returns : goal.returns
returns c = keeps_step
