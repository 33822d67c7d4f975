use Rattle.std.proofs.Common.{◌≡◌, ◌++◌, map, drop}
use Rattle.query_types.proofs.folds.initial_values.Given as goal

abbrev pub invariant-loop-state : goal.invariant-loop-state
invariant-loop-state l = l.values ++ map (λ state. state.initial) (drop l.state-index l.states) ≡ map (λ state. state.initial) l.states
