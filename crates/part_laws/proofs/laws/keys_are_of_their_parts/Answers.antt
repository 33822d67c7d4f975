use Rattle.part_laws.proofs.Keeping.{keys_of_parts, keys_of_no_other}
use Rattle.part_laws.proofs.laws.keys_are_of_their_parts.Goals as goal

pub returns-clause-same : goal.returns-clause-same
returns-clause-same c = keys_of_parts

pub returns-clause-once : goal.returns-clause-once
returns-clause-once c = keys_of_no_other
