use Rattle.query_laws.proofs.{QueryLaws.query_complete, Rows.has_rows, Zips.columns_agree}
use Rattle.query_laws.proofs.tuples.zipped_columns_agree.Goals as goal

pub returns : goal.returns
returns c = λ query q packets typed whole. columns_agree q packets (has_rows query (query_complete typed) whole)
