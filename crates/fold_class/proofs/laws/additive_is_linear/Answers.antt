use Rattle.fold_class.proofs.LawLemmas.{additive_class, additive_algebra, additive_depth}
use Rattle.fold_class.proofs.laws.additive_is_linear.Goals as goal

pub returns : goal.returns
returns c = record { class = additive_class; algebra = additive_algebra; depth = additive_depth }
