use Rattle.part_laws.proofs.Cutting.{cut_no_more, valid_same}
use Rattle.part_laws.proofs.laws.valid_rows_are_the_parts.Goals as goal

pub returns-clause-cut : goal.returns-clause-cut
returns-clause-cut c = cut_no_more

pub returns-clause-rows : goal.returns-clause-rows
returns-clause-rows c = valid_same
