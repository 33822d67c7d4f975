-- The typing of streams.
use Rattle.std.specs.Prelude.{ℕ, ◌+◌, Bool, true, false, not, ◌&&◌, ◌||◌, nat_eq, nat_lt, is_some, List, [], ◌∷◌, ◌++◌, length, map}
use Rattle.std.specs.{Prelude.{flat_map, filter_map, slice_get, Option, Some, None, Ok, if◌then◌else◌}, List.list_any}
use Rattle.query_lang.specs.declared.fault.FaultKind.TheVariants.{UnknownName, NameTaken, WrongKind, OverLimit}
use Rattle.query_lang.specs.declared.{fault.{Limit.TheVariants.{Groupbys, Keys, Bindings}, Span.Span}, query.{Name.Name, Key.Key}}
use Rattle.query_lang.specs.declared.query.{Key.TheVariants.{Named, FiveTuple}, Column.Column, Expr.Expr, StreamDef.StreamDef}
use Rattle.query_lang.specs.declared.query.StreamOp.{StreamOp}
use Rattle.query_lang.specs.declared.query.StreamOp.TheVariants as ops
use Rattle.query_lang.specs.declared.typed.PrintOf.TheVariants as place
use Rattle.query_lang.specs.declared.typed.TypedOp.TheVariants as typed
use Rattle.query_lang.specs.declared.typing.{Earlier.Earlier, FoldView.FoldView, StreamView.StreamView, Known.Known, Meaning.Meaning}
use Rattle.query_lang.specs.declared.typing.Meaning.TheVariants as meaning
use Rattle.query_lang.specs.declared.typing.{MadeStream.MadeStream, NewColumns.NewColumns, Origin.Origin}
use Rattle.query_lang.specs.declared.typing.Origin.TheVariants as origin
use Rattle.query_lang.specs.declared.typing.{Picked.Picked, StreamColumn.StreamColumn}
use Rattle.query_lang.specs.Checks.{Checked, refused, and_then, must, must_not, collected, is_among}
use Rattle.query_lang.specs.TypedExprs.{slot_of, condition_of, word_of}
use Rattle.query_lang.specs.declared.fault.TheConstants.{MAX_BINDINGS, MAX_GROUPBYS, MAX_KEYS}

-- what a name denotes, of the names that earlier items have
abbrev pub meaning_of : List Known → ℕ → Option Meaning
meaning_of [] id = None
meaning_of (one ∷ rest) id = if nat_eq one.name id then Some one.meaning else meaning_of rest id

-- A new stream or final. Its name is free, and there are at most MAX_BINDINGS of them.
abbrev pub begun : Earlier → Name → Checked (Unit {0})
begun earlier name =
    must_not (is_some (meaning_of earlier.known name.id)) NameTaken name.span (
    must (nat_lt (length earlier.streams + length earlier.finals) MAX_BINDINGS) (OverLimit Bindings) name.span (Ok tt))

-- a name that has to denote a stream
abbrev pub as_stream : Option Meaning → Span → Checked StreamView
as_stream None span = refused UnknownName span
as_stream (Some (meaning.Stream stream)) span = Ok stream
as_stream (Some (meaning.Fold f)) span = refused WrongKind span
as_stream (Some (meaning.Final table)) span = refused WrongKind span

abbrev pub stream_named : List Known → Name → Checked StreamView
stream_named known name = as_stream (meaning_of known name.id) name.span

-- a name that has to denote a fold
abbrev pub as_fold : Option Meaning → Span → Checked FoldView
as_fold None span = refused UnknownName span
as_fold (Some (meaning.Fold f)) span = Ok f
as_fold (Some (meaning.Stream stream)) span = refused WrongKind span
as_fold (Some (meaning.Final table)) span = refused WrongKind span

abbrev pub fold_named : List Known → Name → Checked FoldView
fold_named known name = as_fold (meaning_of known name.id) name.span

abbrev pub column_names : List StreamColumn → List ℕ
column_names columns = map (λ column. column.name) columns

-- Each new column of a `map`, beside names that are taken: its name is free and new, and its expression over these columns is a word.
abbrev pub new_columns : List ℕ → List ℕ → NewColumns → List Column → Checked NewColumns
new_columns columns hidden made [] = Ok made
new_columns columns hidden made (column ∷ rest) =
    must_not (is_among column.name.id columns ||
    (is_among column.name.id hidden || is_among column.name.id made.names)) NameTaken column.name.span (
    and_then (word_of columns hidden column.value) (λ value.
    new_columns columns hidden (record { names = made.names ++ column.name.id ∷ []; values = made.values ++ value ∷ [] }) rest))

abbrev pub no_new_columns : NewColumns
no_new_columns = record { names = []; values = [] }

-- two columns of one name are the same one where both are the packet's field, or both were made by one `map`: then they have the
-- same values, as query_laws proves (`zipped_columns_agree`)
abbrev pub same_origin : Origin → Origin → Bool
same_origin origin.Field origin.Field = true
same_origin (origin.Map a) (origin.Map b) = nat_eq a b
same_origin _ _ = false

-- both have a column of one name, and it isn't the same column
abbrev pub clashes_with : List StreamColumn → StreamColumn → Bool
clashes_with left column = list_any (λ other. nat_eq other.name column.name && not (same_origin other.origin column.origin)) left

abbrev pub clash : List StreamColumn → List StreamColumn → Bool
clash left right = list_any (clashes_with left) right

-- the slots of the columns that aren't among these names, where the first column has this slot
abbrev pub others_from : ℕ → List ℕ → List StreamColumn → List ℕ
others_from slot names [] = []
others_from slot names (column ∷ rest) =
    if is_among column.name names then others_from (slot + 1) names rest else (slot ∷ others_from (slot + 1) names rest)

-- the columns at these slots
abbrev pub columns_at : List StreamColumn → List ℕ → List StreamColumn
columns_at columns slots = filter_map (λ slot. slice_get columns slot) slots

-- a key's names: `5tuple` means five fields
abbrev pub key_names : List ℕ → Key → List Name
key_names five (Named name) = name ∷ []
key_names five (FiveTuple span) = map (λ id. record { id = id; span = span }) five

-- Each key in turn: it is a column, it is new, and there are at most MAX_KEYS.
abbrev pub keys_from : List ℕ → List ℕ → Picked → List Name → Checked Picked
keys_from columns hidden found [] = Ok found
keys_from columns hidden found (key ∷ rest) =
    and_then (slot_of columns hidden key) (λ slot.
    must_not (is_among key.id found.names) NameTaken key.span (
    must (nat_lt (length found.names) MAX_KEYS) (OverLimit Keys) key.span (
    keys_from columns hidden (record { names = found.names ++ key.id ∷ []; slots = found.slots ++ slot ∷ [] }) rest)))

abbrev pub keys_checked : List ℕ → List ℕ → List ℕ → List Key → Checked Picked
keys_checked five columns hidden keys = keys_from columns hidden (record { names = []; slots = [] }) (flat_map (key_names five) keys)

-- The slots of a fold's arguments among the columns, and no state variable has the name of a key. The faults are at the fold's name.
abbrev pub arguments_of : List ℕ → List ℕ → List ℕ → FoldView → Span → Checked (List ℕ)
arguments_of columns hidden keys f span =
    and_then (collected [] (map (λ id. slot_of columns hidden (record { id = id; span = span })) f.args)) (λ slots.
    must_not (list_any (λ state. is_among state keys) f.states) NameTaken span (Ok slots))

-- `filter` keeps the columns and the hidden states of its input
abbrev pub filtered : Earlier → Name → Expr → Checked MadeStream
filtered earlier input e =
    and_then (stream_named earlier.known input) (λ source.
    and_then (condition_of (column_names source.columns) source.hidden e) (λ condition.
    Ok (record { op = typed.Filter source.number condition; columns = source.columns; hidden = source.hidden; table = None })))

-- the number of the stream after those that earlier items make; `pktstream` is number 0
abbrev pub next_stream : Earlier → ℕ
next_stream earlier = length earlier.streams + 1

-- `map` adds its columns after those of its input
abbrev pub mapped : Earlier → Name → List Column → Checked MadeStream
mapped earlier input columns =
    and_then (stream_named earlier.known input) (λ source.
    and_then (new_columns (column_names source.columns) source.hidden no_new_columns columns) (λ made.
    Ok (record {
      op = typed.Map source.number made.values;
      columns = source.columns ++ map (λ name. record { name = name; origin = origin.Map (next_stream earlier) }) made.names;
      hidden = source.hidden;
      table = None;
    })))

-- `zip` has the columns of the left, and then those of the right that the left doesn't have
abbrev pub zipped : Earlier → Name → Name → Checked MadeStream
zipped earlier first second =
    and_then (stream_named earlier.known first) (λ left.
    and_then (stream_named earlier.known second) (λ right.
    let slots = others_from 0 (column_names left.columns) right.columns in
    must_not (clash left.columns right.columns) NameTaken second.span (
    Ok (record {
      op = typed.Zip left.number right.number slots;
      columns = left.columns ++ columns_at right.columns slots;
      hidden = left.hidden ++ right.hidden;
      table = None;
    }))))

-- `groupby` has its key columns, and the variables of its fold are its hidden states. Its table has the keys and then the variables
abbrev pub grouped : List ℕ → Earlier → Name → List Key → Name → Checked MadeStream
grouped five earlier input keys fold_name =
    and_then (stream_named earlier.known input) (λ source.
    and_then (keys_checked five (column_names source.columns) source.hidden keys) (λ picked.
    and_then (fold_named earlier.known fold_name) (λ f.
    and_then (arguments_of (column_names source.columns) source.hidden picked.names f fold_name.span) (λ arguments.
    Ok (record {
      op = typed.Group source.number picked.slots f.number arguments;
      columns = columns_at source.columns picked.slots;
      hidden = f.states;
      table = Some (record { place = place.Group earlier.groups; columns = picked.names ++ f.states; keys = length picked.names });
    })))))

-- what the operator of the stream with this name makes; there are at most MAX_GROUPBYS groupbys
abbrev pub made_stream : List ℕ → Earlier → Name → StreamOp → Checked MadeStream
made_stream five earlier name (ops.Filter input e) = filtered earlier input e
made_stream five earlier name (ops.Map input columns) = mapped earlier input columns
made_stream five earlier name (ops.Zip first second) = zipped earlier first second
made_stream five earlier name (ops.Group input keys fold_name) =
    must (nat_lt earlier.groups MAX_GROUPBYS) (OverLimit Groupbys) name.span (grouped five earlier input keys fold_name)

-- with one more stream
abbrev pub with_stream : Earlier → Name → MadeStream → Earlier
with_stream earlier name made = record earlier {
  known = earlier.known ++ record {
    name = name.id;
    meaning = meaning.Stream (record { number = next_stream earlier; columns = made.columns; hidden = made.hidden; table = made.table });
  } ∷ [];
  groups = earlier.groups + (if is_some made.table then 1 else 0);
  streams = earlier.streams ++ record { name = name; columns = column_names made.columns; op = made.op } ∷ [];
}

abbrev pub stream_checked : List ℕ → Earlier → StreamDef → Checked Earlier
stream_checked five earlier d =
    and_then (begun earlier d.name) (λ _. and_then (made_stream five earlier d.name d.op) (λ made. Ok (with_stream earlier d.name made)))
