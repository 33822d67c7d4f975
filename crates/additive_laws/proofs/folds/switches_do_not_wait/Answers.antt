use Rattle.additive_laws.proofs.Orders.{any_interleaving}
use Rattle.additive_laws.proofs.folds.switches_do_not_wait.Goals as goal

pub returns : goal.returns
returns c = any_interleaving
