use Rattle.additive_laws.proofs.Sums.{any_order, exchanged}
use Rattle.additive_laws.proofs.folds.rows_come_in_any_order.Goals as goal

pub returns-clause-neighbours : goal.returns-clause-neighbours
returns-clause-neighbours c = exchanged

pub returns-clause-order : goal.returns-clause-order
returns-clause-order c = any_order
