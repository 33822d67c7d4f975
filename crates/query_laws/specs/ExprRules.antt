-- The rules of expressions.
use Rattle.std.specs.Prelude.{◌≡◌, ℕ, zero, suc, ◌<◌, List, [], ◌∷◌, if◌then◌else◌}
use Rattle.query_lang.specs.{declared.{fault.Span.Span, fold.Op.Op}, Folds.gives_condition}
use Rattle.query_lang.specs.declared.fold.Op.TheVariants.{Div, Rem, Shl, Shr, Decay, Both, Either}
use Rattle.query_lang.specs.declared.fold.TypedExpr.{TypedExpr}
use Rattle.query_lang.specs.declared.fold.TypedExpr.TheVariants as typed
use Rattle.query_lang.specs.declared.query.{Name.Name, Expr.Expr}
use Rattle.query_lang.specs.declared.query.Expr.TheVariants as expr

-- what an expression gives
pub data Kind : Type 0 where
  Word : Kind
  Condition : Kind

-- the one that isn't this
abbrev pub other_kind : Kind → Kind
other_kind Word = Condition
other_kind Condition = Word

-- the first of these names that is id is at this place
abbrev pub StandsAt : List ℕ → ℕ → ℕ → Type 0
StandsAt [] place id = ⊥
StandsAt (name ∷ rest) zero id = name ≡ id
StandsAt (name ∷ rest) (suc place) id = (name ≡ id → ⊥) × StandsAt rest place id

-- what an operator stands between
abbrev pub operand_kind : Op → Kind
operand_kind Both = Condition
operand_kind Either = Condition
operand_kind _ = Word

-- what an operator gives
abbrev pub result_kind : Op → Kind
result_kind op = if gives_condition op then Condition else Word

-- a number in the text, and of which this holds
abbrev pub IsNumberWith : (ℕ → Type 0) → Expr → Type 0
IsNumberWith Q e = (n : ℕ) × (span : Span) × (e ≡ expr.Number n span) × Q n

-- a divisor is a number other than 0, and what is shifted by is a number below 64
abbrev pub IsRightOperand : Op → Expr → Type 0
IsRightOperand Div e = IsNumberWith (λ n. 0 < n) e
IsRightOperand Rem e = IsNumberWith (λ n. 0 < n) e
IsRightOperand Shl e = IsNumberWith (λ n. n < 64) e
IsRightOperand Shr e = IsNumberWith (λ n. n < 64) e
IsRightOperand Decay e = IsNumberWith (λ n. n < 64) e
IsRightOperand _ e = Unit {0}

-- An expression over these columns is a word or a condition, and has this typed form.
pub data HasKind (columns : List ℕ) : Kind → Expr → TypedExpr → Type 0 where
  of_number : {n : ℕ} (span : Span) → HasKind columns Word (expr.Number n span) (typed.Number n)
  of_name : (x : Name) {slot : ℕ} → StandsAt columns slot x.id → HasKind columns Word (expr.Named x) (typed.Slot slot)
  of_not : (span : Span) {e : Expr} {t : TypedExpr} → HasKind columns Condition e t
      → HasKind columns Condition (expr.Not span e) (typed.Not t)
  of_binary : {op : Op} (span : Span) {a b : Expr} {s t : TypedExpr}
      → HasKind columns (operand_kind op) a s → HasKind columns (operand_kind op) b t → IsRightOperand op b
      → HasKind columns (result_kind op) (expr.Binary op span a b) (typed.Binary op s t)
  of_call : {op : Op} (span : Span) {a b : Expr} {s t : TypedExpr}
      → HasKind columns (operand_kind op) a s → HasKind columns (operand_kind op) b t → IsRightOperand op b
      → HasKind columns (result_kind op) (expr.Call op span (a ∷ b ∷ [])) (typed.Binary op s t)
