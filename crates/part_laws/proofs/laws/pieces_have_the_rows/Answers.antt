use Rattle.part_laws.proofs.InSequence.{pieces_have_rows, keys_of_pieces}
use Rattle.part_laws.proofs.laws.pieces_have_the_rows.Goals as goal

pub returns-clause-rows : goal.returns-clause-rows
returns-clause-rows c = pieces_have_rows

pub returns-clause-keys : goal.returns-clause-keys
returns-clause-keys c = keys_of_pieces
