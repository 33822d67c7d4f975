use Rattle.fold_class.proofs.TranslationLaws.{step_history}
use Rattle.fold_class.proofs.laws.history_steps_alone.Goals as goal

pub returns : goal.returns
returns c = step_history
