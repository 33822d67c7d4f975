use Rattle.query_lang.proofs.Pieces.{takes_some}
use Rattle.query_lang.proofs.laws.pieces_take_bytes.Goals as goal

pub returns : goal.returns
returns c = λ b bytes. takes_some b bytes
