-- The rules of folds and their statements.
use Rattle.std.specs.Prelude.{◌≡◌, ℕ, ◌≤◌, List, [], ◌∷◌, ◌++◌, length, map, Option, Some, None}
use Rattle.query_lang.specs.declared.{fault.Span.Span, fold.{Op.TheVariants.Both, TypedExpr.TypedExpr}}
use Rattle.query_lang.specs.declared.fold.TypedExpr.TheVariants as typed
use Rattle.query_lang.specs.declared.fold.TypedStmt.{TypedStmt}
use Rattle.query_lang.specs.declared.fold.TypedStmt.TheVariants as typed_stmt
use Rattle.query_lang.specs.declared.{fold.TypedFold.TypedFold, query.{Name.Name, Expr.Expr, FoldDef.FoldDef, Stmt.Stmt}}
use Rattle.query_lang.specs.declared.query.Stmt.TheVariants as stmt
use Rattle.query_lang.specs.{Folds.ReadsArguments, Terms.term_of, TypedFolds.{fold_nodes, fold_statements}}
use Rattle.query_lang.specs.declared.fault.TheConstants.{MAX_ARGS, MAX_STATES}
use Rattle.query_laws.specs.ExprRules.{Word, Condition, StandsAt, HasKind}

-- none of these names is id
abbrev pub IsNew : ℕ → List ℕ → Type 0
IsNew id [] = Unit {0}
IsNew id (name ∷ rest) = (name ≡ id → ⊥) × IsNew id rest

-- each of some names is none of those before it
abbrev pub AreNew : List ℕ → List ℕ → Type 0
AreNew before [] = Unit {0}
AreNew before (name ∷ rest) = IsNew name before × AreNew (before ++ name ∷ []) rest

-- the conditions around a statement, the innermost first, as one
abbrev pub conjunction : TypedExpr → List TypedExpr → TypedExpr
conjunction inner [] = inner
conjunction inner (outer ∷ others) = typed.Binary Both (conjunction outer others) inner

-- the condition of an `emit` inside these: the number 1 where there are none
abbrev pub emit_of : List TypedExpr → TypedExpr
emit_of [] = typed.Number 1
emit_of (inner ∷ others) = conjunction inner others

-- none of these reads a state variable
abbrev pub ReadArguments : ℕ → List TypedExpr → Type 0
ReadArguments states [] = Unit {0}
ReadArguments states (t ∷ others) = ReadsArguments states (term_of t) × ReadArguments states others

-- The statements of a block inside these conditions have these typed forms, and these are the conditions of its `emit`s.
pub data HasBlock (states args : List ℕ) : List TypedExpr → List Stmt → List TypedStmt → List TypedExpr → Type 0 where
  of_none : (around : List TypedExpr) → HasBlock states args around [] [] []
  of_assign : {around : List TypedExpr} (x : Name) {v : ℕ} {e : Expr} {t : TypedExpr} {rest : List Stmt} {ts : List TypedStmt}
      {emits : List TypedExpr} → StandsAt states v x.id → HasKind (states ++ args) Word e t → HasBlock states args around rest ts emits
      → HasBlock states args around (stmt.Assign x e ∷ rest) (typed_stmt.Assign v t ∷ ts) emits
  of_if : {around : List TypedExpr} {c : Expr} {t : TypedExpr} {a b rest : List Stmt} {xs ys ts : List TypedStmt}
      {first second others : List TypedExpr} → HasKind (states ++ args) Condition c t → HasBlock states args (t ∷ around) a xs first
      → HasBlock states args (typed.Not t ∷ around) b ys second → HasBlock states args around rest ts others
      → HasBlock states args around (stmt.If c a b ∷ rest) (typed_stmt.If t xs ys ∷ ts) ((first ++ second) ++ others)
  of_emit : {around : List TypedExpr} (span : Span) {rest : List Stmt} {ts : List TypedStmt} {others : List TypedExpr}
      → ReadArguments (length states) around → HasBlock states args around rest ts others
      → HasBlock states args around (stmt.Emit span ∷ rest) ts (emit_of around ∷ others)

-- one condition at most
abbrev pub at_most_one : Option TypedExpr → List TypedExpr
at_most_one None = []
at_most_one (Some t) = t ∷ []

abbrev pub state_names_of : FoldDef → List ℕ
state_names_of d = map (λ state. state.name.id) d.states

abbrev pub arg_names_of : FoldDef → List ℕ
arg_names_of d = map (λ arg. arg.id) d.args

-- the typed form of a fold, of what its statements and its `emit` are
abbrev pub fold_of : FoldDef → List TypedStmt → Option TypedExpr → TypedFold
fold_of d statements emit = record {
  name = d.name;
  state_names = state_names_of d;
  initial = map (λ state. state.initial) d.states;
  arg_names = arg_names_of d;
  body = statements;
  emit = emit;
  nodes = fold_nodes d;
  statements = fold_statements d;
}

-- A fold has this typed form: its names are distinct, and it has at most MAX_STATES state variables, MAX_ARGS arguments and one `emit`.
pub record HasFold (d : FoldDef) (f : TypedFold) : Type 0 where
  pub body : List TypedStmt
  pub emit : Option TypedExpr
  pub is : f ≡ fold_of d body emit
  pub states : AreNew [] (state_names_of d)
  pub args : AreNew (state_names_of d) (arg_names_of d)
  pub few_states : length d.states ≤ MAX_STATES
  pub few_args : length d.args ≤ MAX_ARGS
  pub statements : HasBlock (state_names_of d) (arg_names_of d) [] d.body body (at_most_one emit)
