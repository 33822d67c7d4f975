use Rattle.query_laws.proofs.{QueryLaws.query_complete, Rows.{has_rows, rows_fill}}
use Rattle.query_laws.proofs.tuples.rows_fill_their_columns.Goals as goal

pub returns : goal.returns
returns c = λ query q packets typed whole number. rows_fill (has_rows query (query_complete typed) whole) number
