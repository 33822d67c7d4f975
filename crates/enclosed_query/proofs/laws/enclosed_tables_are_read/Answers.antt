use Rattle.enclosed_query.proofs.ReadTables.{tables_read}
use Rattle.enclosed_query.proofs.laws.enclosed_tables_are_read.Goals as goal

pub returns : goal.returns
returns c = tables_read c.query_tables_are_read.ensures c.exact_tables_are_read.ensures
