use Rattle.part_laws.proofs.FinalRows.{joins_of_parts}
use Rattle.part_laws.proofs.finals.joins_are_of_parts.Goals as goal

pub returns : goal.returns
returns c = joins_of_parts
