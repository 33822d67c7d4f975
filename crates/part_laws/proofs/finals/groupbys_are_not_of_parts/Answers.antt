use Rattle.part_laws.proofs.FinalRows.{groupbys_not_of_parts}
use Rattle.part_laws.proofs.finals.groupbys_are_not_of_parts.Goals as goal

pub returns : goal.returns
returns c = groupbys_not_of_parts
