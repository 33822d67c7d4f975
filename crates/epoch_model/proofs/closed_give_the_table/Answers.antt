use Rattle.epoch_model.proofs.TableRows.{closed_give_the_table_lem}
use Rattle.epoch_model.proofs.closed_give_the_table.Goals as goal

pub returns : goal.returns
returns c = closed_give_the_table_lem
