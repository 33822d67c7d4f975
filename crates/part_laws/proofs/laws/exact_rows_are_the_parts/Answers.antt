use Rattle.part_laws.proofs.Tables.{exact_rows, tables_join}
use Rattle.part_laws.proofs.laws.exact_rows_are_the_parts.Goals as goal

pub returns-clause-rows : goal.returns-clause-rows
returns-clause-rows c = exact_rows

pub returns-clause-tables : goal.returns-clause-tables
returns-clause-tables c = tables_join
