use Rattle.additive_laws.proofs.{Stores.store_folds, StoreTables.store_table}
use Rattle.additive_laws.proofs.folds.store_folds_all_packets.Goals as goal

pub returns-clause-state : goal.returns-clause-state
returns-clause-state c = store_folds

pub returns-clause-table : goal.returns-clause-table
returns-clause-table c = store_table
