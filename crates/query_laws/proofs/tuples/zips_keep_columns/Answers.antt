use Rattle.query_laws.proofs.{QueryLaws.query_complete, Rows.has_rows, Zips.{first_kept, second_kept}}
use Rattle.query_laws.proofs.tuples.zips_keep_columns.Goals as goal

pub returns-clause-first : goal.returns-clause-first
returns-clause-first c = λ query q packets typed whole. first_kept q packets (has_rows query (query_complete typed) whole)

pub returns-clause-second : goal.returns-clause-second
returns-clause-second c = λ query q packets typed whole. second_kept q packets (has_rows query (query_complete typed) whole)
