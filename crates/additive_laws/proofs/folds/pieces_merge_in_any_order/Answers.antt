use Rattle.additive_laws.proofs.Orders.{merged_any_order}
use Rattle.additive_laws.proofs.folds.pieces_merge_in_any_order.Goals as goal

pub returns : goal.returns
returns c = merged_any_order
