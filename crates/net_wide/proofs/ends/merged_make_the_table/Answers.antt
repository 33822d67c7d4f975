use Rattle.net_wide.proofs.NetRows.{make_the_table}
use Rattle.net_wide.proofs.ends.merged_make_the_table.Goals as goal

pub returns : goal.returns
returns c = make_the_table c.additive_is_linear.ensures.class
