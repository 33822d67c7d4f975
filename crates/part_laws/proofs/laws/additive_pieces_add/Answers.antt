use Rattle.part_laws.proofs.InSequence.{pieces_add, states_of_pieces_add, words_of_pieces_add, pieces_join}
use Rattle.part_laws.proofs.laws.additive_pieces_add.Goals as goal

pub returns : goal.returns
returns c = record { words = pieces_add; states = states_of_pieces_add; words_of_tables = words_of_pieces_add; tables = pieces_join }
