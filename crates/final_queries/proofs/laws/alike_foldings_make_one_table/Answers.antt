use Rattle.final_queries.proofs.AlikeTables.{alike_tables}
use Rattle.final_queries.proofs.laws.alike_foldings_make_one_table.Goals as goal

pub returns : goal.returns
returns c = alike_tables
