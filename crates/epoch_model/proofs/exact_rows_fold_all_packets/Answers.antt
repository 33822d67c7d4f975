use Rattle.epoch_model.proofs.TableRows.{exact_rows_fold_all_packets_lem}
use Rattle.epoch_model.proofs.exact_rows_fold_all_packets.Goals as goal

pub returns : goal.returns
returns c = exact_rows_fold_all_packets_lem
