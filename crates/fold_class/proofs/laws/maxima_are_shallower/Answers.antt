use Rattle.fold_class.proofs.LawLemmas.{maxima_depth}
use Rattle.fold_class.proofs.laws.maxima_are_shallower.Goals as goal

pub returns : goal.returns
returns c f d valid = maxima_depth f d
