use Rattle.part_laws.proofs.Adding.{parts_add, states_of_parts_add, words_of_parts_add, additive_tables}
use Rattle.part_laws.proofs.laws.additive_parts_add.Goals as goal

pub returns : goal.returns
returns c = record { words = parts_add; states = states_of_parts_add; words_of_tables = words_of_parts_add; tables = additive_tables }
