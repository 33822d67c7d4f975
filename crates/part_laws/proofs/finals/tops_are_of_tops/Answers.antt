use Rattle.part_laws.proofs.TopRows.{tops_are_of_tops}
use Rattle.part_laws.proofs.finals.tops_are_of_tops.Goals as goal

pub returns : goal.returns
returns c = tops_are_of_tops
