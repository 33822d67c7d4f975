use Rattle.trace_pieces.proofs.RowFacts.{rows_cut}
use Rattle.trace_pieces.proofs.laws.pieces_have_the_records.Goals as goal

pub returns : goal.returns
returns c = rows_cut
