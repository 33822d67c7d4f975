-- Which groupbys may merge the epochs of several switches into one store, and the fault of a query with one that may not.
use Rattle.std.specs.Prelude.{ℕ, ◌-◌, Bool, true, false, not, ◌&&◌, ◌||◌, if◌then◌else◌, List, [], ◌∷◌, length, drop, slice_get, Option}
use Rattle.std.specs.{Prelude.{Some, None}, List.list_any, Str.bytes_eq}
use Rattle.marple_base.specs.{declared.field.Field.TheVariants.Switch, Field.field_name}
use Rattle.query_lang.specs.declared.{fault.{FaultKind.TheVariants.NotAdditive, QueryFault.QueryFault}, fold.TypedFold.TypedFold}
use Rattle.query_lang.specs.declared.typed.{TypedOp.{TypedOp, TheVariants.{Filter, Map, Zip, Group}}, TypedQuery.TypedQuery}
use Rattle.query_lang.specs.declared.typed.TypedStream.{TypedStream}
use Rattle.fold_code.specs.Additive.{is_additive}
use Rattle.stage_plan.specs.Shape.{text_at}

-- whether the name with this number is `switch`
abbrev pub is_switch : List (List ℕ) → ℕ → Bool
is_switch names id = bytes_eq (field_name Switch) (text_at names id)

-- whether one of these columns is named `switch`
abbrev pub names_switch : List (List ℕ) → List ℕ → Bool
names_switch names columns = list_any (is_switch names) columns

-- the columns that an operator makes new, of all columns of its stream: a `map` makes the last ones, one for each of its values
abbrev pub columns_made : List ℕ → TypedOp → List ℕ
columns_made columns (Filter input condition) = []
columns_made columns (Map input values) = drop (length columns - length values) columns
columns_made columns (Zip left right slots) = []
columns_made columns (Group input keys f args) = []

-- whether a `map` of these streams makes a column named `switch`
abbrev pub makes_switch : List (List ℕ) → List TypedStream → Bool
makes_switch names streams = list_any (λ one. names_switch names (columns_made one.columns one.op)) streams

-- whether the fold is there and additive
abbrev pub adds : Option TypedFold → Bool
adds None = false
adds (Some f) = is_additive f

-- Whether a groupby with this fold and these keys combines: its fold is additive, or one of its keys is named `switch` and no `map` of
-- a stream of the query makes a column of that name.
abbrev pub combines : TypedQuery → ℕ → List ℕ → Bool
combines q f keys = adds (slice_get q.folds f) || (names_switch q.names keys && not (makes_switch q.names q.streams))

-- whether a stream is no groupby's, or that of a groupby that combines; the columns of a groupby's stream are its keys
abbrev pub may_stand : TypedQuery → List ℕ → TypedOp → Bool
may_stand q columns (Filter input condition) = true
may_stand q columns (Map input values) = true
may_stand q columns (Zip left right slots) = true
may_stand q columns (Group input keys f args) = combines q f columns

-- the fault of the first of these streams that is of a groupby that doesn't combine, at its name
abbrev pub first_apart : TypedQuery → List TypedStream → Option QueryFault
first_apart q [] = None
first_apart q (one ∷ streams) =
    if may_stand q one.columns one.op then first_apart q streams else Some (record { kind = NotAdditive; span = one.name.span })

-- The fault of a query for several switches, at the name of the first groupby that doesn't combine; None where every groupby combines.
abbrev pub net_fault : TypedQuery → Option QueryFault
net_fault q = first_apart q q.streams
