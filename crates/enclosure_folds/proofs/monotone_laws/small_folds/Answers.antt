-- Computed from the definitions, the small folds are monotone or not as said, and have the bounds that are said.
use Rattle.enclosure_folds.specs.MonotoneExamples as fold
use Rattle.enclosure_folds.proofs.MonotoneExampleFacts.{found, decayed_sum_bounds, clamped_bounds}
use Rattle.enclosure_folds.proofs.monotone_laws.small_folds.Goals as goal

pub returns : goal.returns
returns c = record {
  decayed_sum = found 1 fold.decayed_sum;
  clamped = found 1 fold.clamped;
  wrapping_sum = found 1 fold.wrapping_sum;
  shifted_left = found 1 fold.shifted_left;
  choice_by_argument = found 1 fold.choice_by_argument;
  choice_by_state = found 2 fold.choice_by_state;
  overwritten = found 1 fold.overwritten;
  within = decayed_sum_bounds;
  exact = clamped_bounds;
}
