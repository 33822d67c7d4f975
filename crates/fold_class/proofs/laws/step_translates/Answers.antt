use Rattle.fold_class.proofs.TranslationLaws.{step_moves, step_sums, step_maxima}
use Rattle.fold_class.proofs.laws.step_translates.Goals as goal

pub returns : goal.returns
returns c = record { moves = step_moves; sums = step_sums; maxima = step_maxima }
