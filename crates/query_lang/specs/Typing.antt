-- The typing of queries: the typed query, or the first fault.
use Rattle.std.specs.Prelude.{ℕ, Bool, true, false, nat_lt, min, is_some, List, [], ◌∷◌, ◌++◌, length, map, count_by, fold, codes, None, Ok}
use Rattle.marple_base.specs.{declared.field.Field.Field, Field.{all_fields, field_name}}
use Rattle.query_lang.specs.declared.{fault.{FaultKind.TheVariants.{NameTaken, NothingPrinted}, Span.Span}, query.{Query.Query, Item.Item}}
use Rattle.query_lang.specs.declared.query.Item.TheVariants as item
use Rattle.query_lang.specs.declared.query.{Name.Name, FoldDef.FoldDef, StreamOp.StreamOp}
use Rattle.query_lang.specs.declared.query.StreamOp.TheVariants as ops
use Rattle.query_lang.specs.declared.{fold.TypedFold.TypedFold, typed.TypedQuery.TypedQuery}
use Rattle.query_lang.specs.declared.typing.{Earlier.Earlier, Given.Given, Known.Known}
use Rattle.query_lang.specs.declared.typing.Meaning.TheVariants as meaning
use Rattle.query_lang.specs.declared.typing.Origin.TheVariants as origin
use Rattle.query_lang.specs.{Names.{number_in, with_name}, Checks.{Checked, and_then, must, must_not, is_among}, TypedFolds.fold_checked}
use Rattle.query_lang.specs.{TypedStreams.{meaning_of, stream_checked}, TypedFinals.{table_named, five_fields, final_checked}}
use Rattle.query_lang.specs.declared.fault.TheConstants.{MAX_GROUPBYS}

-- with one more fold
abbrev pub with_fold : Earlier → TypedFold → Earlier
with_fold earlier f = record earlier {
  known = earlier.known ++ record {
    name = f.name.id;
    meaning = meaning.Fold (record { number = length earlier.folds; states = f.state_names; args = f.arg_names; emits = is_some f.emit });
  } ∷ [];
  folds = earlier.folds ++ f ∷ [];
}

-- the fold's name is free, and then the fold is checked
abbrev pub fold_added : Earlier → FoldDef → Checked Earlier
fold_added earlier d =
    must_not (is_some (meaning_of earlier.known d.name.id)) NameTaken d.name.span (
    and_then (fold_checked d) (λ f. Ok (with_fold earlier f)))

-- a table is printed once
abbrev pub print_checked : Earlier → Name → Checked Earlier
print_checked earlier name =
    and_then (table_named earlier.known name) (λ table.
    must_not (is_among name.id earlier.printed) NameTaken name.span (
    Ok (record earlier { prints = earlier.prints ++ table.place ∷ []; printed = earlier.printed ++ name.id ∷ [] })))

abbrev pub item_checked : Given → Earlier → Item → Checked Earlier
item_checked given earlier (item.Fold d) = fold_added earlier d
item_checked given earlier (item.Stream d) = stream_checked (five_fields given.fields) earlier d
item_checked given earlier (item.Final d) = final_checked given earlier d
item_checked given earlier (item.Print name) = print_checked earlier name

-- items in order, each after those before it
abbrev pub items_checked : Given → Earlier → List Item → Checked Earlier
items_checked given earlier [] = Ok earlier
items_checked given earlier (one ∷ rest) = and_then (item_checked given earlier one) (λ more. items_checked given more rest)

-- the names with those of all fields, each after the others where it is new
abbrev pub with_fields : List (List ℕ) → List Field → List (List ℕ)
with_fields names fields = fold (λ known f. with_name known (field_name f)) names fields

abbrev pub typed_names : List (List ℕ) → List (List ℕ)
typed_names names = with_fields names all_fields

-- the numbers of the fields' names among these
abbrev pub field_numbers : List (List ℕ) → List ℕ
field_numbers names = map (λ f. number_in names (field_name f)) all_fields

abbrev pub is_group : StreamOp → Bool
is_group (ops.Group input keys f) = true
is_group _ = false

abbrev pub is_groupby : Item → Bool
is_groupby (item.Stream d) = is_group d.op
is_groupby _ = false

-- what is known from the start, where the names are these and those of all fields; a ninth groupby is refused
abbrev pub given_of : List (List ℕ) → List Item → Given
given_of names items = record { fields = field_numbers names; groups = min (count_by is_groupby items) MAX_GROUPBYS }

-- the stream of all packets, whose columns are the fields
abbrev pub packet_stream : List (List ℕ) → Known
packet_stream names = record {
  name = number_in names (codes "pktstream");
  meaning = meaning.Stream (record {
    number = 0;
    columns = map (λ id. record { name = id; origin = origin.Field }) (field_numbers names);
    hidden = [];
    table = None;
  });
}

-- It is there from the start.
abbrev pub start_of : List (List ℕ) → Earlier
start_of names = record {
  known = packet_stream names ∷ [];
  groups = 0;
  folds = [];
  streams = [];
  finals = [];
  prints = [];
  printed = [];
}

-- a query prints some table
abbrev pub ended : List (List ℕ) → Span → Earlier → Checked TypedQuery
ended names end earlier = must (nat_lt 0 (length earlier.prints)) NothingPrinted end (Ok (record {
  names = names;
  folds = earlier.folds;
  streams = earlier.streams;
  finals = earlier.finals;
  prints = earlier.prints;
}))

-- The typed query, or the first fault.
abbrev pub checked : Query → Checked TypedQuery
checked q =
    let names = typed_names q.names in
    and_then (items_checked (given_of names q.items) (start_of names) q.items) (ended names q.end)
