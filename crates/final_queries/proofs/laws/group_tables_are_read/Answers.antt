use Rattle.final_queries.proofs.GroupRead.{group_read}
use Rattle.final_queries.proofs.laws.group_tables_are_read.Goals as goal

pub returns : goal.returns
returns c = group_read c.keys_ascend.ensures
