-- What an operator names is there, and how many operations are made for it at most.
use Rattle.std.specs.Prelude.{ℕ, ◌+◌, ◌<◌, List, sum_by, slice_get, Option, Some, None, option_and_then}
use Rattle.query_lang.specs.declared.{fold.{TypedExpr.TypedExpr, TypedFold.TypedFold}, typed.TypedOp.TypedOp}
use Rattle.query_lang.specs.{declared.typed.TypedOp.TheVariants.{Filter, Map, Zip, Group}, Folds.term_nodes, Terms.{Term, term_of}}

-- an operator's inputs are among this many streams
abbrev pub HasInputs : ℕ → TypedOp → Type 0
HasInputs streams (Filter input condition) = input < streams
HasInputs streams (Map input values) = input < streams
HasInputs streams (Zip left right slots) = (left < streams) × (right < streams)
HasInputs streams (Group input keys f args) = input < streams

-- a groupby's fold is among this many
abbrev pub HasFold : ℕ → TypedOp → Type 0
HasFold folds (Filter input condition) = Unit {0}
HasFold folds (Map input values) = Unit {0}
HasFold folds (Zip left right slots) = Unit {0}
HasFold folds (Group input keys f args) = f < folds

-- an expression has an operation for each node at most, and a condition one more, which joins it with a presence
abbrev pub condition_most : Term → ℕ
condition_most condition = term_nodes condition + 1

abbrev pub values_most : List TypedExpr → ℕ
values_most values = sum_by (λ e. term_nodes (term_of e)) values

abbrev pub emit_most : Option TypedExpr → ℕ
emit_most None = 0
emit_most (Some condition) = condition_most (term_of condition)

-- how many operations are made for an operator at most
abbrev pub op_most : List TypedFold → TypedOp → ℕ
op_most folds (Filter input condition) = condition_most (term_of condition)
op_most folds (Map input values) = values_most values
op_most folds (Zip left right slots) = 1
op_most folds (Group input keys f args) = emit_most (option_and_then (λ f. f.emit) (slice_get folds f))
