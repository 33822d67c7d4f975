use Rattle.part_laws.proofs.Keeping.{parts_have_rows}
use Rattle.part_laws.proofs.laws.parts_have_the_rows.Goals as goal

pub returns : goal.returns
returns c = parts_have_rows
