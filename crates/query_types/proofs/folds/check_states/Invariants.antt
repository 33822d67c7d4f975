use Rattle.std.proofs.Common.{◌≡◌, ◌≤◌, [], drop, length}
use Rattle.query_lang.specs.{TypedFolds.states_from, declared.fault.TheConstants.MAX_STATES}
use Rattle.query_types.proofs.folds.check_states.Given as goal

abbrev pub invariant-loop-state : goal.invariant-loop-state
invariant-loop-state l = record {
  given : states_from l.found (drop l.state-index l.states) ≡ states_from [] l.states;
  most : length l.found ≤ MAX_STATES;
}
