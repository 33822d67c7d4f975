use Rattle.part_laws.proofs.Keeping.{others_have_none}
use Rattle.part_laws.proofs.laws.other_parts_have_none.Goals as goal

pub returns : goal.returns
returns c = others_have_none
