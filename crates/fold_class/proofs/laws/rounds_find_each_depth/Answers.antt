use Rattle.query_lang.specs.Folds.{fold_states}
use Rattle.fold_class.proofs.DepthLemmas.{history_rounds}
use Rattle.fold_class.proofs.laws.rounds_find_each_depth.Goals as goal

pub returns : goal.returns
returns c f v lt = (λ h. history_rounds f v lt h, λ e. (fold_states f, e))
