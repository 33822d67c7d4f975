use Rattle.part_laws.proofs.Tables.{keys_of_all_parts}
use Rattle.part_laws.proofs.laws.keys_are_of_all_parts.Goals as goal

pub returns : goal.returns
returns c = keys_of_all_parts
