-- The names of a fold.
use Rattle.std.proofs.{Common.{◌≡◌, ◌+◌, ◌≤◌, ◌++◌, length, ap, ◌∙◌, arith}, lemmas.List.length-append}
use Rattle.query_lang.specs.declared.fault.TheConstants.{MAX_ARGS, MAX_STATES}
use Rattle.query_types.specs.{declared.bodies.Scope.Scope, Bodies.IsScope}

pub scope_is : (scope : Scope) → scope.columns.now ≡ scope.states.now ++ scope.args.now → length scope.states.now ≤ MAX_STATES
    → length scope.args.now ≤ MAX_ARGS → IsScope scope
scope_is scope is states args =
    let width : length scope.columns.now ≡ length scope.states.now + length scope.args.now = ap length is
    ∙ length-append scope.states.now scope.args.now in
    record { columns = is; width = omega (arith, width, states, args); states = omega (arith, states) }
