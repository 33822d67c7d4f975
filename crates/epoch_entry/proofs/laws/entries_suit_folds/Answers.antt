use Rattle.epoch_entry.proofs.PurposeFacts.{kind_suits}
use Rattle.epoch_entry.proofs.laws.entries_suit_folds.Goals as goal

pub returns : goal.returns
returns c entries f sizes folding opening absorbing kind = kind_suits f _ _ _ _ _ kind
