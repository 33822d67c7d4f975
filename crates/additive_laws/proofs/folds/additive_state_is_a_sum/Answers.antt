use Rattle.additive_laws.proofs.Sums.{state_is_a_sum}
use Rattle.additive_laws.proofs.folds.additive_state_is_a_sum.Goals as goal

pub returns : goal.returns
returns c = state_is_a_sum
