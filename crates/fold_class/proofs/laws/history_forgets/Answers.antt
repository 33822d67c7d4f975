use Rattle.fold_class.proofs.LawLemmas.{forgets}
use Rattle.fold_class.proofs.laws.history_forgets.Goals as goal

pub returns : goal.returns
returns c = forgets
