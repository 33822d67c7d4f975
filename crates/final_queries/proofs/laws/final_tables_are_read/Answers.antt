use Rattle.final_queries.proofs.MadeRows.{final_read}
use Rattle.final_queries.proofs.laws.final_tables_are_read.Goals as goal

pub returns : goal.returns
returns c = final_read c.keys_ascend.ensures
