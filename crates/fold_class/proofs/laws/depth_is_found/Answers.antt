use Rattle.fold_class.proofs.LawLemmas.{depth_is}
use Rattle.fold_class.proofs.laws.depth_is_found.Goals as goal

pub returns : goal.returns
returns c f d valid = depth_is f d
