use Rattle.net_wide.proofs.NetRead.{tables_read}
use Rattle.net_wide.proofs.ends.net_tables_are_read.Goals as goal

pub returns : goal.returns
returns c = tables_read c.query_tables_are_read.ensures
