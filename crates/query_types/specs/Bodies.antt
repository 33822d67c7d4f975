-- The parts of a fold's statements: its names, an assignment, and what opens a choice.
use Rattle.std.specs.Prelude.{◌≡◌, ◌≤◌, ℕ, List, [], ◌∷◌, ◌++◌, length, Ok}
use Rattle.query_lang.specs.declared.fold.TypedExpr.TheVariants as typed
use Rattle.query_lang.specs.declared.fold.TypedStmt.TheVariants as typed_stmt
use Rattle.query_lang.specs.declared.{query.{Expr.Expr, Name.Name}, typing.Body.Body}
use Rattle.query_lang.specs.{declared.typing.Enclosing.Enclosing, Checks.{Checked, and_then}, TypedExprs.{condition_of, word_of}}
use Rattle.query_lang.specs.TypedFolds.{target_of, inside}
use Rattle.query_types.specs.declared.bodies.{Choice.Choice, Scope.Scope}

-- the columns are the state variables and then the arguments, and each has a slot
pub record IsScope (scope : Scope) : Type 0 where
  pub columns : scope.columns.now ≡ scope.states.now ++ scope.args.now
  pub width : length scope.columns.now ≤ 65536
  pub states : length scope.states.now ≤ 65536

-- an assignment after the statements before it
abbrev pub assigned : List ℕ → List ℕ → Name → Expr → Body → Checked Body
assigned states args name e found =
    and_then (target_of states args name) (λ v.
    and_then (word_of (states ++ args) [] e) (λ value.
    Ok (record { statements = found.statements ++ typed_stmt.Assign v value ∷ []; emit = found.emit })))

-- the condition of a choice, and what encloses the statements of both its blocks
abbrev pub choice_of : List ℕ → List ℕ → Enclosing → Expr → Checked Choice
choice_of states args outer c =
    and_then (condition_of (states ++ args) [] c) (λ condition.
    Ok (record { condition = condition; holding = inside states outer c condition; failing = inside states outer c (typed.Not condition) }))
