use Rattle.std.proofs.Common.{◌≡◌, map, drop}
use Rattle.query_lang.specs.TypedFolds.{first_of, state_in, expr_nodes}
use Rattle.query_types.proofs.bodies.+find_state.Given as goal

abbrev pub decreases-find_state : goal.decreases-find_state
decreases-find_state l = expr_nodes l.e.now

abbrev pub invariant-arguments : goal.invariant-arguments
invariant-arguments l =
    first_of (map (state_in l.states) (drop l.argument-index l.argument-items)) ≡ first_of (map (state_in l.states) l.argument-items)
