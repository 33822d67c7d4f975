-- The typing of expressions.
use Rattle.std.specs.Prelude.{ℕ, Bool, true, false, not, nat_lt, List, [], ◌∷◌, Option, Some, None, Ok, if◌then◌else◌}
use Rattle.query_lang.specs.declared.fault.{FaultKind.TheVariants.{UnknownName, WrongKind, WrongArity, BadConstant, StateOnLine}, Span.Span}
use Rattle.query_lang.specs.declared.fold.{Op.{Op, TheVariants.{Div, Rem, Shl, Shr, Decay, Both, Either}}, TypedExpr.TypedExpr}
use Rattle.query_lang.specs.declared.fold.TypedExpr.TheVariants as typed
use Rattle.query_lang.specs.declared.query.{Name.Name, Expr.{Expr, fold-Expr}}
use Rattle.query_lang.specs.declared.query.Expr.TheOpen as expr
use Rattle.query_lang.specs.{declared.typing.{Found.Found, Sort.{Sort, TheVariants.{Number, Word, Condition}}}, Folds.gives_condition}
use Rattle.query_lang.specs.Checks.{Checked, refused, and_then, must, collected, is_among, place_of}

-- the slot of a name: its place among the columns. Otherwise it is a hidden state, which is not read while packets pass, or unknown.
-- A column is found before a hidden state
abbrev pub slot_at : Option ℕ → Bool → Span → Checked ℕ
slot_at (Some slot) is_hidden span = Ok slot
slot_at None true span = refused StateOnLine span
slot_at None false span = refused UnknownName span

abbrev pub slot_of : List ℕ → List ℕ → Name → Checked ℕ
slot_of columns hidden name = slot_at (place_of columns name.id) (is_among name.id hidden) name.span

abbrev pub is_condition_sort : Sort → Bool
is_condition_sort Condition = true
is_condition_sort _ = false

-- an operator between conditions; every other one is between words
abbrev pub joins_conditions : Op → Bool
joins_conditions Both = true
joins_conditions Either = true
joins_conditions _ = false

abbrev pub is_operand : Op → Sort → Bool
is_operand op sort = if joins_conditions op then is_condition_sort sort else not (is_condition_sort sort)

-- a number of the text that passes a test
abbrev pub is_number_with : (ℕ → Bool) → Sort → Bool
is_number_with test (Number n) = test n
is_number_with test _ = false

-- a divisor is a number other than 0, and what is shifted by is a number below 64
abbrev pub is_right_constant : Op → Sort → Bool
is_right_constant Div sort = is_number_with (λ n. nat_lt 0 n) sort
is_right_constant Rem sort = is_number_with (λ n. nat_lt 0 n) sort
is_right_constant Shl sort = is_number_with (λ n. nat_lt n 64) sort
is_right_constant Shr sort = is_number_with (λ n. nat_lt n 64) sort
is_right_constant Decay sort = is_number_with (λ n. nat_lt n 64) sort
is_right_constant _ sort = true

abbrev pub sort_of : Op → Sort
sort_of op = if gives_condition op then Condition else Word

-- an operator or function, whose leftmost token is here, between two operands
abbrev pub of_two : Op → Span → Found → Found → Checked Found
of_two op at a b =
    must (is_operand op a.sort) WrongKind a.at (
    must (is_operand op b.sort) WrongKind b.at (
    must (is_right_constant op b.sort) BadConstant b.at (
    Ok (record { tree = typed.Binary op a.tree b.tree; sort = sort_of op; at = at }))))

-- a function takes two arguments
abbrev pub call_of : Op → Span → List Found → Checked Found
call_of op span (a ∷ b ∷ []) = of_two op span a b
call_of op span _ = refused WrongArity span

abbrev pub negation_checked : Span → Found → Checked Found
negation_checked span e = must (is_condition_sort e.sort) WrongKind e.at
    (Ok (record { tree = typed.Not e.tree; sort = Condition; at = span }))

-- one expression, with what each expression inside gives: the operands first, from left to right, and then the node
abbrev pub expr_step : List ℕ → List ℕ → expr.Expr-F (Checked Found) → Checked Found
expr_step columns hidden (expr.Number n span) = Ok (record { tree = typed.Number n; sort = Number n; at = span })
expr_step columns hidden (expr.Named name) =
    and_then (slot_of columns hidden name) (λ slot. Ok (record { tree = typed.Slot slot; sort = Word; at = name.span }))
expr_step columns hidden (expr.Not span e) = and_then e (negation_checked span)
expr_step columns hidden (expr.Binary op span a b) = and_then a (λ x. and_then b (λ y. of_two op x.at x y))
expr_step columns hidden (expr.Call op span arguments) = and_then (collected [] arguments) (call_of op span)

-- an expression over these columns, beside these hidden states
abbrev pub expr_checked : List ℕ → List ℕ → Expr → Checked Found
expr_checked columns hidden = fold-Expr (Checked Found) (expr_step columns hidden)

-- an expression that has to be a condition
abbrev pub condition_of : List ℕ → List ℕ → Expr → Checked TypedExpr
condition_of columns hidden e = and_then (expr_checked columns hidden e)
    (λ found. must (is_condition_sort found.sort) WrongKind found.at (Ok found.tree))

-- an expression that has to be a word
abbrev pub word_of : List ℕ → List ℕ → Expr → Checked TypedExpr
word_of columns hidden e = and_then (expr_checked columns hidden e)
    (λ found. must (not (is_condition_sort found.sort)) WrongKind found.at (Ok found.tree))
