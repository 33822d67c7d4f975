use Rattle.query_lang.proofs.Pieces.{enough}
use Rattle.query_lang.proofs.laws.bytes_bound_pieces.Goals as goal

pub returns : goal.returns
returns c = λ bound at names bytes le. enough bound at names bytes le
