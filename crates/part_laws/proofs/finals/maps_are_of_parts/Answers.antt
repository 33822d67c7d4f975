use Rattle.part_laws.proofs.FinalRows.{maps_of_parts}
use Rattle.part_laws.proofs.finals.maps_are_of_parts.Goals as goal

pub returns : goal.returns
returns c = maps_of_parts
