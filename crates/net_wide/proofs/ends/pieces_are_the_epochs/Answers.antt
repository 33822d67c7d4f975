use Rattle.net_wide.proofs.NetRows.{are_the_epochs}
use Rattle.net_wide.proofs.ends.pieces_are_the_epochs.Goals as goal

pub returns : goal.returns
returns c = are_the_epochs
