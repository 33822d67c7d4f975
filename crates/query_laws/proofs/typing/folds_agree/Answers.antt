use Rattle.query_laws.proofs.FoldLaws.{fold_sound, fold_complete}
use Rattle.query_laws.proofs.typing.folds_agree.Goals as goal

pub returns : goal.returns
returns c = λ d f. (λ h. fold_complete h, λ h. fold_sound h)
