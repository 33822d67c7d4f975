-- What the operators of streams make of inputs that were looked up.
use Rattle.std.specs.Prelude.{ℕ, List, [], ◌∷◌, ◌++◌, length, map, Some, None, Ok, nat_lt, ◌||◌}
use Rattle.query_lang.specs.declared.fault.{FaultKind.TheVariants.{NameTaken, OverLimit}, Limit.TheVariants.Keys, TheConstants.MAX_KEYS}
use Rattle.query_lang.specs.declared.query.{Column.Column, Name.Name}
use Rattle.query_lang.specs.declared.typed.PrintOf.TheVariants as place
use Rattle.query_lang.specs.declared.typed.TypedOp.TheVariants as typed
use Rattle.query_lang.specs.declared.typing.{FoldView.FoldView, MadeStream.MadeStream, NewColumns.NewColumns}
use Rattle.query_lang.specs.declared.typing.Origin.TheVariants as origin
use Rattle.query_lang.specs.{declared.typing.{Picked.Picked, StreamView.StreamView}, Checks.{Checked, and_then, must, must_not, is_among}}
use Rattle.query_lang.specs.{TypedExprs.word_of, TypedStreams.columns_at}

-- one more column of a `map`, whose name is new
abbrev pub column_added : List ℕ → List ℕ → NewColumns → Column → Checked NewColumns
column_added columns hidden made column =
    must_not (is_among column.name.id columns ||
    (is_among column.name.id hidden || is_among column.name.id made.names)) NameTaken column.name.span (
    and_then (word_of columns hidden column.value) (λ value.
    Ok (record { names = made.names ++ column.name.id ∷ []; values = made.values ++ value ∷ [] })))

-- one more key at this slot: it is new, and there are at most MAX_KEYS
abbrev pub key_added : Picked → Name → ℕ → Checked Picked
key_added found key slot =
    must_not (is_among key.id found.names) NameTaken key.span (
    must (nat_lt (length found.names) MAX_KEYS) (OverLimit Keys) key.span (
    Ok (record { names = found.names ++ key.id ∷ []; slots = found.slots ++ slot ∷ [] })))

-- a `map`, which makes the stream with this number
abbrev pub with_columns : StreamView → ℕ → NewColumns → MadeStream
with_columns source number made = record {
  op = typed.Map source.number made.values;
  columns = source.columns ++ map (λ name. record { name = name; origin = origin.Map number }) made.names;
  hidden = source.hidden;
  table = None;
}

-- a `zip` that takes these slots of the right
abbrev pub with_slots : StreamView → StreamView → List ℕ → MadeStream
with_slots left right slots = record {
  op = typed.Zip left.number right.number slots;
  columns = left.columns ++ columns_at right.columns slots;
  hidden = left.hidden ++ right.hidden;
  table = None;
}

-- a `groupby`, which is the one with this number
abbrev pub with_keys : ℕ → StreamView → Picked → FoldView → List ℕ → MadeStream
with_keys number source picked f arguments = record {
  op = typed.Group source.number picked.slots f.number arguments;
  columns = columns_at source.columns picked.slots;
  hidden = f.states;
  table = Some (record { place = place.Group number; columns = picked.names ++ f.states; keys = length picked.names });
}
