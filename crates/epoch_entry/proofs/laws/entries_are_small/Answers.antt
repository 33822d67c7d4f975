use Rattle.epoch_entry.proofs.PurposeFacts.{kind_fits}
use Rattle.epoch_entry.proofs.laws.entries_are_small.Goals as goal

pub returns : goal.returns
returns c entries f sizes folding opening absorbing key valid kind few =
    kind_fits f _ _ _ _ _ _ valid kind few
