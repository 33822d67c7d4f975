use Rattle.part_laws.proofs.InOrder.{exact_in_order}
use Rattle.part_laws.proofs.finals.exact_tables_are_in_order.Goals as goal

pub returns : goal.returns
returns c = exact_in_order
