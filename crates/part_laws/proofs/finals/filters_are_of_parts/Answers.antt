use Rattle.part_laws.proofs.FinalRows.{filters_of_parts}
use Rattle.part_laws.proofs.finals.filters_are_of_parts.Goals as goal

pub returns : goal.returns
returns c = filters_of_parts
