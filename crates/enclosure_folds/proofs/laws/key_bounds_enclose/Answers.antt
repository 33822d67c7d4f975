use Rattle.enclosure_folds.proofs.RowFacts.{keys_enclose}
use Rattle.enclosure_folds.proofs.laws.key_bounds_enclose.Goals as goal

pub returns : goal.returns
returns c = keys_enclose
