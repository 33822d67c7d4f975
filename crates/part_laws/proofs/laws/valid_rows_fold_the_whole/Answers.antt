use Rattle.part_laws.proofs.Tables.{valid_rows}
use Rattle.part_laws.proofs.laws.valid_rows_fold_the_whole.Goals as goal

pub returns : goal.returns
returns c = valid_rows
