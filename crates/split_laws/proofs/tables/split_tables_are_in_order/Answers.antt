use Rattle.split_laws.proofs.PartNumbers.{split_tables_lem}
use Rattle.split_laws.proofs.tables.split_tables_are_in_order.Goals as goal

pub returns : goal.returns
returns c = split_tables_lem c.by_hash_keeps_keys.ensures c.exact_tables_are_in_order.ensures
