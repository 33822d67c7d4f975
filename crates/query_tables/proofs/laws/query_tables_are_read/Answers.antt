use Rattle.query_tables.proofs.GroupTables.{group_tables_read}
use Rattle.query_tables.proofs.laws.query_tables_are_read.Goals as goal

pub returns : goal.returns
returns c = group_tables_read c.group_tables_are_read.ensures
