-- What a query's items ask of their tokens, and what each kind of fault says of what is asked and isn't so.
use Rattle.std.specs.Prelude.{◌≡◌, ℕ, ◌<◌, ◌≤◌, List, [], ◌∷◌, length, false}
use Rattle.query_lang.specs.declared.fault.FaultKind.{FaultKind}
use Rattle.query_lang.specs.declared.fault.FaultKind.TheVariants as kinds
use Rattle.query_lang.specs.declared.fault.Limit.{Limit}
use Rattle.query_lang.specs.declared.fault.Limit.TheVariants as limits
use Rattle.query_lang.specs.declared.{fault.Span.Span, fold.{Op.Op, TypedExpr.TypedExpr}, query.Expr.{Expr, fold-Expr}}
use Rattle.query_lang.specs.declared.query.Expr.TheOpen as open_expr
use Rattle.query_lang.specs.declared.query.Expr.TheVariants as expr
use Rattle.query_lang.specs.declared.query.{Name.Name, Stmt.Stmt}
use Rattle.query_lang.specs.declared.query.Stmt.TheVariants as stmt
use Rattle.query_lang.specs.declared.typing.{FoldView.FoldView, Known.Known, StreamColumn.StreamColumn, StreamView.StreamView}
use Rattle.query_lang.specs.{declared.{typing.TableView.TableView, fault.TheConstants.{MAX_ARGS, MAX_BINDINGS}}, TypedFinals.key_columns}
use Rattle.query_lang.specs.declared.fault.TheConstants.{MAX_GROUPBYS, MAX_KEYS, MAX_NESTING, MAX_NODES, MAX_STAGES, MAX_STATEMENTS}
use Rattle.query_lang.specs.declared.fault.TheConstants.{MAX_STATES}
use Rattle.query_laws.specs.Context.{IsFree, IsStream, IsFold, IsTable}
use Rattle.query_laws.specs.{ExprRules.{Kind, Condition, StandsAt, operand_kind, IsRightOperand, other_kind, HasKind}, FoldRules.IsNew}
use Rattle.query_laws.specs.StreamRules.{AreApart, AreSame}

-- ---- parts of expressions and of blocks

-- the leftmost token of an expression, parentheses aside
abbrev pub leftmost_step : open_expr.Expr-F Span → Span
leftmost_step (open_expr.Number n span) = span
leftmost_step (open_expr.Named x) = x.span
leftmost_step (open_expr.Not span e) = span
leftmost_step (open_expr.Binary op span a b) = a
leftmost_step (open_expr.Call op span arguments) = span

abbrev pub leftmost : Expr → Span
leftmost = fold-Expr Span leftmost_step

-- one of these expressions
pub data IsOneOf (e : Expr) : List Expr → Type 0 where
  first : {others : List Expr} → IsOneOf e (e ∷ others)
  later : (other : Expr) (others : List Expr) → IsOneOf e others → IsOneOf e (other ∷ others)

-- Where an expression has to be of some kind, each part of it has to be of its own.
pub data HasPart : Kind → Expr → Kind → Expr → Type 0 where
  whole : {k : Kind} {e : Expr} → HasPart k e k e
  of_not : {k : Kind} (span : Span) {e : Expr} {l : Kind} {part : Expr} → HasPart Condition e l part → HasPart k (expr.Not span e) l part
  of_left : {k : Kind} (op : Op) (span : Span) (a b : Expr) {l : Kind} {part : Expr}
      → HasPart (operand_kind op) a l part → HasPart k (expr.Binary op span a b) l part
  of_right : {k : Kind} (op : Op) (span : Span) (a : Expr) {b : Expr} {l : Kind} {part : Expr}
      → HasPart (operand_kind op) b l part → HasPart k (expr.Binary op span a b) l part
  of_argument : {k : Kind} (op : Op) (span : Span) {arguments : List Expr} {a : Expr} {l : Kind} {part : Expr}
      → IsOneOf a arguments → HasPart (operand_kind op) a l part → HasPart k (expr.Call op span arguments) l part

-- a name in an expression
abbrev pub StandsInside : Name → Expr → Type 0
StandsInside x e = (k l : Kind) × HasPart k e l (expr.Named x)

-- a statement in a block, and the conditions around it, the innermost first, from those around the block on
pub data StandsIn : List Expr → List Stmt → List Expr → Stmt → Type 0 where
  first : {around : List Expr} {s : Stmt} {rest : List Stmt} → StandsIn around (s ∷ rest) around s
  later : {outer : List Expr} {other : Stmt} {rest : List Stmt} {around : List Expr} {s : Stmt}
      → StandsIn outer rest around s → StandsIn outer (other ∷ rest) around s
  in_first : {outer : List Expr} {c : Expr} (a b rest : List Stmt) {around : List Expr} {s : Stmt}
      → StandsIn (c ∷ outer) a around s → StandsIn outer (stmt.If c a b ∷ rest) around s
  in_second : {outer : List Expr} {c : Expr} (a : List Stmt) {b rest : List Stmt} {around : List Expr} {s : Stmt}
      → StandsIn (c ∷ outer) b around s → StandsIn outer (stmt.If c a b ∷ rest) around s

-- some `emit` is in the block
abbrev pub HasEmit : List Stmt → Type 0
HasEmit block = (around : List Expr) × (span : Span) × StandsIn [] block around (stmt.Emit span)

-- the `emit` here comes after another one in the block
pub data FollowsEmit (span : Span) : List Stmt → Type 0 where
  beyond : {s : Stmt} {rest : List Stmt} {around : List Expr} → HasEmit (s ∷ []) → StandsIn [] rest around (stmt.Emit span)
      → FollowsEmit span (s ∷ rest)
  later : (s : Stmt) (rest : List Stmt) → FollowsEmit span rest → FollowsEmit span (s ∷ rest)
  across : (c : Expr) (a : List Stmt) {b rest : List Stmt} {around : List Expr} → HasEmit a → StandsIn [] b around (stmt.Emit span)
      → FollowsEmit span (stmt.If c a b ∷ rest)
  in_first : (c : Expr) {a : List Stmt} (b : List Stmt) {rest : List Stmt} → FollowsEmit span a → FollowsEmit span (stmt.If c a b ∷ rest)
  in_second : (c : Expr) (a : List Stmt) {b rest : List Stmt} → FollowsEmit span b → FollowsEmit span (stmt.If c a b ∷ rest)

-- ---- what is asked

-- what the name of an earlier item has to stand for
pub data Sought : Type 0 where
  AStream : Sought
  ATable : Sought
  AFold : Sought
  AQuietFold : Sought

abbrev pub IsSought : List Known → Sought → ℕ → Type 0
IsSought known AStream id = (stream : StreamView) × IsStream known id stream
IsSought known ATable id = (table : TableView) × IsTable known id table
IsSought known AFold id = (f : FoldView) × IsFold known id f
IsSought known AQuietFold id = (f : FoldView) × IsFold known id f × (f.emits ≡ false)

-- What is asked, mostly of the token at a span.
pub data Demand : Type 0 where
  -- no earlier item has the name
  Free : Name → Demand
  -- the name of an earlier item
  Stands : Sought → Name → Demand
  -- the name is that of one of these columns, beside these hidden states
  AColumn : List ℕ → List ℕ → ℕ → Span → Demand
  -- the name is none of these
  New : List ℕ → ℕ → Span → Demand
  -- the name is one of these state variables, beside these arguments
  Target : List ℕ → List ℕ → Name → Demand
  -- the expression over these columns is of this kind
  Typed : List ℕ → Kind → Expr → Demand
  -- a function has two arguments
  Two : List Expr → Span → Demand
  -- the operator's right operand, or the function's second argument, is a constant that it may have
  Constant : Op → Expr → Demand
  -- at least one row is kept, and at most 65,536
  Kept : ℕ → Span → Demand
  -- there are fewer than there may be
  Fewer : Limit → ℕ → Span → Demand
  -- columns of one name are the same column
  Same : List StreamColumn → List StreamColumn → Span → Demand
  -- none of these names is one of those
  Apart : List ℕ → List ℕ → Span → Demand
  -- two tables have the same keys
  SameKeys : TableView → TableView → Span → Demand
  -- no state variable is in a condition around an `emit`
  ReadsNone : List ℕ → Expr → Demand
  -- no `emit` of a fold's body follows another
  OneEmit : List Stmt → Demand

-- how many there may be
abbrev pub most : Limit → ℕ
most limits.Groupbys = MAX_GROUPBYS
most limits.Keys = MAX_KEYS
most limits.States = MAX_STATES
most limits.Args = MAX_ARGS
most limits.Bindings = MAX_BINDINGS
most limits.Statements = MAX_STATEMENTS
most limits.Nodes = MAX_NODES
most limits.Nesting = MAX_NESTING
most limits.Stages = MAX_STAGES

-- What is asked is so, after items of which this is known.
abbrev pub Holds : List Known → Demand → Type 0
Holds known (Free x) = IsFree known x.id
Holds known (Stands sought x) = IsSought known sought x.id
Holds known (AColumn columns hidden id span) = (slot : ℕ) × StandsAt columns slot id
Holds known (New taken id span) = IsNew id taken
Holds known (Target states args x) = (v : ℕ) × StandsAt states v x.id
Holds known (Typed columns kind e) = (t : TypedExpr) × HasKind columns kind e t
Holds known (Two arguments span) = length arguments ≡ 2
Holds known (Constant op e) = IsRightOperand op e
Holds known (Kept rows span) = (1 ≤ rows) × (rows ≤ 65536)
Holds known (Fewer limit count span) = count < most limit
Holds known (Same left right span) = AreSame left right
Holds known (Apart ids others span) = AreApart ids others
Holds known (SameKeys left right span) = key_columns left ≡ key_columns right
Holds known (ReadsNone states c) = (x : Name) → StandsInside x c → IsNew x.id states
Holds known (OneEmit body) = (span : Span) → FollowsEmit span body → ⊥

-- ---- what each kind of fault says

-- *UnknownName*: no earlier item has the name, or no column and no hidden state, or no variable of the fold
abbrev pub IsUnknown : List Known → Span → Demand → Type 0
IsUnknown known at (Stands sought x) = (x.span ≡ at) × IsFree known x.id
IsUnknown known at (AColumn columns hidden id span) = (span ≡ at) × IsNew id columns × IsNew id hidden
IsUnknown known at (Target states args x) = (x.span ≡ at) × IsNew x.id states × IsNew x.id args
IsUnknown known at _ = ⊥

-- *StateOnLine*: no column has the name, but a hidden state of the input; or a state variable is in a condition around an `emit`
abbrev pub IsHiddenState : Span → Demand → Type 0
IsHiddenState at (AColumn columns hidden id span) = (span ≡ at) × IsNew id columns × (IsNew id hidden → ⊥)
IsHiddenState at (ReadsNone states c) = (x : Name) × StandsInside x c × (x.span ≡ at) × (IsNew x.id states → ⊥)
IsHiddenState at _ = ⊥

-- *NameTaken*: something else has the name already
abbrev pub IsTaken : List Known → Span → Demand → Type 0
IsTaken known at (Free x) = (x.span ≡ at) × (IsFree known x.id → ⊥)
IsTaken known at (New taken id span) = (span ≡ at) × (IsNew id taken → ⊥)
IsTaken known at (Same left right span) = (span ≡ at) × (AreSame left right → ⊥)
IsTaken known at (Apart ids others span) = (span ≡ at) × (AreApart ids others → ⊥)
IsTaken known at _ = ⊥

-- *WrongKind*: the name stands for something else, or the expression is of the other kind, or an argument is assigned to, or the keys
-- of two tables differ
abbrev pub IsOtherKind : List Known → Span → Demand → Type 0
IsOtherKind known at (Stands sought x) = (x.span ≡ at) × (IsFree known x.id → ⊥) × (IsSought known sought x.id → ⊥)
IsOtherKind known at (Typed columns kind e) = (leftmost e ≡ at) × ((t : TypedExpr) × HasKind columns (other_kind kind) e t)
IsOtherKind known at (Target states args x) = (x.span ≡ at) × IsNew x.id states × (IsNew x.id args → ⊥)
IsOtherKind known at (SameKeys left right span) = (span ≡ at) × (key_columns left ≡ key_columns right → ⊥)
IsOtherKind known at _ = ⊥

-- *WrongArity*: a function doesn't have two arguments, or an `emit` has another one before it
abbrev pub IsOtherArity : Span → Demand → Type 0
IsOtherArity at (Two arguments span) = (span ≡ at) × (length arguments ≡ 2 → ⊥)
IsOtherArity at (OneEmit body) = FollowsEmit at body
IsOtherArity at _ = ⊥

-- *BadConstant*: the divisor isn't a number other than 0, the shift isn't a number below 64, or the rows kept are 0 or more than 65,536
abbrev pub IsBadConstant : Span → Demand → Type 0
IsBadConstant at (Constant op e) = (leftmost e ≡ at) × (IsRightOperand op e → ⊥)
IsBadConstant at (Kept rows span) = (span ≡ at) × ((1 ≤ rows) × (rows ≤ 65536) → ⊥)
IsBadConstant at _ = ⊥

-- *OverLimit*: there are as many already as there may be
abbrev pub IsOneTooMany : Limit → Span → Demand → Type 0
IsOneTooMany limit at (Fewer one count span) = (one ≡ limit) × (span ≡ at) × (most limit ≤ count)
IsOneTooMany limit at _ = ⊥

-- What a fault of this kind at this span says.
abbrev pub Tells : List Known → FaultKind → Span → Demand → Type 0
Tells known kinds.UnknownName at d = IsUnknown known at d
Tells known kinds.StateOnLine at d = IsHiddenState at d
Tells known kinds.NameTaken at d = IsTaken known at d
Tells known kinds.WrongKind at d = IsOtherKind known at d
Tells known kinds.WrongArity at d = IsOtherArity at d
Tells known kinds.BadConstant at d = IsBadConstant at d
Tells known (kinds.OverLimit limit) at d = IsOneTooMany limit at d
Tells known _ at d = ⊥
