-- The typing of folds.
use Rattle.std.specs.Prelude.{ℕ, ◌+◌, Bool, true, false, nat_lt, is_some, List, [], ◌∷◌, ◌++◌, length, map, sum, sum_by, Option, Some, None}
use Rattle.std.specs.Prelude.{Ok, ◌||◌, if◌then◌else◌}
use Rattle.query_lang.specs.declared.fault.FaultKind.TheVariants.{UnknownName, NameTaken, WrongKind, WrongArity, StateOnLine, OverLimit}
use Rattle.query_lang.specs.declared.{fault.{Limit.TheVariants.{States, Args}, Span.Span}, fold.{Op.TheVariants.Both, TypedExpr.TypedExpr}}
use Rattle.query_lang.specs.declared.fold.TypedExpr.TheVariants as typed
use Rattle.query_lang.specs.declared.fold.TypedStmt.TheVariants as typed_stmt
use Rattle.query_lang.specs.declared.{fold.TypedFold.TypedFold, query.{Name.Name, StateVar.StateVar, FoldDef.FoldDef}}
use Rattle.query_lang.specs.declared.query.Expr.{Expr, fold-Expr}
use Rattle.query_lang.specs.declared.query.Expr.TheOpen as expr
use Rattle.query_lang.specs.declared.query.Stmt.{Stmt, fold-Stmt}
use Rattle.query_lang.specs.declared.query.Stmt.TheOpen as stmt
use Rattle.query_lang.specs.declared.typing.{Enclosing.Enclosing, Body.Body}
use Rattle.query_lang.specs.{Checks.{Checked, refused, and_then, must, must_not, is_among, place_of}, TypedExprs.{condition_of, word_of}}
use Rattle.query_lang.specs.declared.fault.TheConstants.{MAX_ARGS, MAX_STATES}

-- each state variable is new, and there are at most MAX_STATES
abbrev pub states_from : List ℕ → List StateVar → Checked (List ℕ)
states_from found [] = Ok found
states_from found (state ∷ rest) =
    must_not (is_among state.name.id found) NameTaken state.name.span (
    must (nat_lt (length found) MAX_STATES) (OverLimit States) state.name.span (
    states_from (found ++ state.name.id ∷ []) rest))

-- each argument is no variable and new, and there are at most MAX_ARGS
abbrev pub args_from : List ℕ → List ℕ → List Name → Checked (List ℕ)
args_from states found [] = Ok found
args_from states found (arg ∷ rest) =
    must_not (is_among arg.id states || is_among arg.id found) NameTaken arg.span (
    must (nat_lt (length found) MAX_ARGS) (OverLimit Args) arg.span (
    args_from states (found ++ arg.id ∷ []) rest))

-- an assignment's target is a state variable
abbrev pub target_at : Option ℕ → Bool → Span → Checked ℕ
target_at (Some v) is_arg span = Ok v
target_at None true span = refused WrongKind span
target_at None false span = refused UnknownName span

abbrev pub target_of : List ℕ → List ℕ → Name → Checked ℕ
target_of states args name = target_at (place_of states name.id) (is_among name.id args) name.span

-- the first of two, where there is one
abbrev pub or_else : Option Span → Option Span → Option Span
or_else (Some span) next = Some span
or_else None next = next

abbrev pub first_of : List (Option Span) → Option Span
first_of [] = None
first_of (found ∷ rest) = or_else found (first_of rest)

-- where the first state variable of an expression is, in the order of the text
abbrev pub state_step : List ℕ → expr.Expr-F (Option Span) → Option Span
state_step states (expr.Number n span) = None
state_step states (expr.Named name) = (if is_among name.id states then Some name.span else None)
state_step states (expr.Not span e) = e
state_step states (expr.Binary op span a b) = or_else a b
state_step states (expr.Call op span arguments) = first_of arguments

abbrev pub state_in : List ℕ → Expr → Option Span
state_in states = fold-Expr (Option Span) (state_step states)

-- conditions that enclose a statement, joined by && and grouped from the left
abbrev pub joined : Option TypedExpr → TypedExpr → TypedExpr
joined None condition = condition
joined (Some outer) condition = typed.Binary Both outer condition

-- one more condition inside those that enclose a statement: as it was written, and as it has to hold
abbrev pub inside : List ℕ → Enclosing → Expr → TypedExpr → Enclosing
inside states outer written condition =
    record { condition = Some (joined outer.condition condition); state = or_else outer.state (state_in states written) }

-- the number 1 where nothing encloses the `emit`
abbrev pub emit_condition : Option TypedExpr → TypedExpr
emit_condition None = typed.Number 1
emit_condition (Some condition) = condition

-- the conditions that enclose an `emit` read no state
abbrev pub no_state : {A : Type 0} → Option Span → Checked A → Checked A
no_state None next = next
no_state (Some state) next = refused StateOnLine state

-- the one `emit` of a fold
abbrev pub emitted : Span → Enclosing → Body → Checked Body
emitted span outer found =
    must_not (is_some found.emit) WrongArity span
    (no_state outer.state (Ok (record { statements = found.statements; emit = Some (emit_condition outer.condition) })))

-- What a statement adds to those before it in its block, from the conditions that enclose it.
abbrev pub Adding : Type 0
Adding = Enclosing → Body → Checked Body

-- the statements of a block in order
abbrev pub in_order : List Adding → Adding
in_order [] outer found = Ok found
in_order (one ∷ rest) outer found = and_then (one outer found) (λ more. in_order rest outer more)

-- a block inside a statement, after the `emit` that comes before it, if there is one
abbrev pub new_block : List Adding → Enclosing → Option TypedExpr → Checked Body
new_block block outer emit = in_order block outer (record { statements = []; emit = emit })

-- one statement, with what each statement inside adds
abbrev pub stmt_step : List ℕ → List ℕ → stmt.Stmt-F Adding → Adding
stmt_step states args (stmt.Assign name e) outer found =
    and_then (target_of states args name) (λ v.
    and_then (word_of (states ++ args) [] e) (λ value.
    Ok (record { statements = found.statements ++ typed_stmt.Assign v value ∷ []; emit = found.emit })))
stmt_step states args (stmt.If c a b) outer found =
    and_then (condition_of (states ++ args) [] c) (λ condition.
    and_then (new_block a (inside states outer c condition) found.emit) (λ p.
    and_then (new_block b (inside states outer c (typed.Not condition)) p.emit) (λ q.
    Ok (record { statements = found.statements ++ typed_stmt.If condition p.statements q.statements ∷ []; emit = q.emit }))))
stmt_step states args (stmt.Emit span) outer found = emitted span outer found

abbrev pub stmt_checked : List ℕ → List ℕ → Stmt → Adding
stmt_checked states args = fold-Stmt Adding (stmt_step states args)

-- the fold's statements, with no condition around them
abbrev pub body_checked : List ℕ → List ℕ → List Stmt → Checked Body
body_checked states args body = new_block (map (stmt_checked states args) body) (record { condition = None; state = None }) None

-- The tokens of an expression that are nodes: its numbers, names, operators and functions.
abbrev pub nodes_step : expr.Expr-F ℕ → ℕ
nodes_step (expr.Number n span) = 1
nodes_step (expr.Named name) = 1
nodes_step (expr.Not span e) = 1 + e
nodes_step (expr.Binary op span a b) = 1 + a + b
nodes_step (expr.Call op span arguments) = 1 + sum arguments

abbrev pub expr_nodes : Expr → ℕ
expr_nodes = fold-Expr ℕ nodes_step

abbrev pub stmt_nodes_step : stmt.Stmt-F ℕ → ℕ
stmt_nodes_step (stmt.Assign name e) = expr_nodes e
stmt_nodes_step (stmt.If c a b) = expr_nodes c + sum a + sum b
stmt_nodes_step (stmt.Emit span) = 0

abbrev pub stmt_nodes : Stmt → ℕ
stmt_nodes = fold-Stmt ℕ stmt_nodes_step

-- the statements of a statement, itself and those inside
abbrev pub count_step : stmt.Stmt-F ℕ → ℕ
count_step (stmt.Assign name e) = 1
count_step (stmt.If c a b) = 1 + sum a + sum b
count_step (stmt.Emit span) = 1

abbrev pub stmt_count : Stmt → ℕ
stmt_count = fold-Stmt ℕ count_step

abbrev pub fold_nodes : FoldDef → ℕ
fold_nodes d = sum_by stmt_nodes d.body

abbrev pub fold_statements : FoldDef → ℕ
fold_statements d = sum_by stmt_count d.body

-- the fold with these state variables, arguments and statements
abbrev pub fold_with : FoldDef → List ℕ → List ℕ → Body → TypedFold
fold_with d states args body = record {
  name = d.name;
  state_names = states;
  initial = map (λ state. state.initial) d.states;
  arg_names = args;
  body = body.statements;
  emit = body.emit;
  nodes = fold_nodes d;
  statements = fold_statements d;
}

-- a fold: its state variables, its arguments, and then its body
abbrev pub fold_checked : FoldDef → Checked TypedFold
fold_checked d =
    and_then (states_from [] d.states) (λ states.
    and_then (args_from states [] d.args) (λ args.
    and_then (body_checked states args d.body) (λ body. Ok (fold_with d states args body))))
