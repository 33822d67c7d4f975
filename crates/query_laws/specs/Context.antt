-- The items before some place as typed, and what their names stand for.
use Rattle.std.specs.Prelude.{◌≡◌, ◌⊎◌, ℕ, ◌+◌, List, [], ◌∷◌, ◌++◌, length, map, codes, Some, None, is_some, if◌then◌else◌}
use Rattle.query_lang.specs.declared.{fold.TypedFold.TypedFold, query.Name.Name, typed.PrintOf.PrintOf}
use Rattle.query_lang.specs.declared.typed.PrintOf.TheVariants as place
use Rattle.query_lang.specs.declared.{typed.{TypedStream.TypedStream, TypedFinal.TypedFinal}, typing.{Earlier.Earlier, FoldView.FoldView}}
use Rattle.query_lang.specs.declared.typing.{StreamView.StreamView, TableView.TableView, Known.Known, Meaning.Meaning}
use Rattle.query_lang.specs.declared.typing.Meaning.TheVariants as meaning
use Rattle.query_lang.specs.declared.typing.Origin.TheVariants as origin
use Rattle.query_lang.specs.{declared.typing.{MadeStream.MadeStream, MadeFinal.MadeFinal}, TypedStreams.column_names, Names.number_in}
use Rattle.query_lang.specs.Typing.{field_numbers}

-- an item as typed
pub data Entry : Type 0 where
  AFold : TypedFold → Entry
  AStream : Name → MadeStream → Entry
  AFinal : Name → MadeFinal → Entry
  APrint : Name → PrintOf → Entry

-- ---- what is in the items, which are listed with the last one first

abbrev pub folds_in : List Entry → List TypedFold
folds_in [] = []
folds_in (AFold f ∷ items) = folds_in items ++ f ∷ []
folds_in (AStream name made ∷ items) = folds_in items
folds_in (AFinal name made ∷ items) = folds_in items
folds_in (APrint name table ∷ items) = folds_in items

abbrev pub streams_in : List Entry → List TypedStream
streams_in [] = []
streams_in (AFold f ∷ items) = streams_in items
streams_in (AStream name made ∷ items) =
    streams_in items ++ record { name = name; columns = column_names made.columns; op = made.op } ∷ []
streams_in (AFinal name made ∷ items) = streams_in items
streams_in (APrint name table ∷ items) = streams_in items

abbrev pub finals_in : List Entry → List TypedFinal
finals_in [] = []
finals_in (AFold f ∷ items) = finals_in items
finals_in (AStream name made ∷ items) = finals_in items
finals_in (AFinal name made ∷ items) =
    finals_in items ++ record { name = name; columns = made.columns; keys = made.keys; op = made.op } ∷ []
finals_in (APrint name table ∷ items) = finals_in items

abbrev pub prints_in : List Entry → List PrintOf
prints_in [] = []
prints_in (AFold f ∷ items) = prints_in items
prints_in (AStream name made ∷ items) = prints_in items
prints_in (AFinal name made ∷ items) = prints_in items
prints_in (APrint name table ∷ items) = prints_in items ++ table ∷ []

abbrev pub printed_in : List Entry → List ℕ
printed_in [] = []
printed_in (AFold f ∷ items) = printed_in items
printed_in (AStream name made ∷ items) = printed_in items
printed_in (AFinal name made ∷ items) = printed_in items
printed_in (APrint name table ∷ items) = printed_in items ++ name.id ∷ []

-- how many groupbys run while packets pass
abbrev pub groups_in : List Entry → ℕ
groups_in [] = 0
groups_in (AFold f ∷ items) = groups_in items
groups_in (AStream name made ∷ items) = groups_in items + (if is_some made.table then 1 else 0)
groups_in (AFinal name made ∷ items) = groups_in items
groups_in (APrint name table ∷ items) = groups_in items

-- what each name stands for: `pktstream` from the start, and then each item's, by its number
abbrev pub known_in : List (List ℕ) → List Entry → List Known
known_in names [] = record {
  name = number_in names (codes "pktstream");
  meaning = meaning.Stream (record {
    number = 0;
    columns = map (λ id. record { name = id; origin = origin.Field }) (field_numbers names);
    hidden = [];
    table = None;
  });
} ∷ []
known_in names (AFold f ∷ items) = known_in names items ++ record {
  name = f.name.id;
  meaning = meaning.Fold (record { number = length (folds_in items); states = f.state_names; args = f.arg_names; emits = is_some f.emit });
} ∷ []
known_in names (AStream name made ∷ items) = known_in names items ++ record {
  name = name.id;
  meaning = meaning.Stream (record {
    number = length (streams_in items) + 1;
    columns = made.columns;
    hidden = made.hidden;
    table = made.table;
  });
} ∷ []
known_in names (AFinal name made ∷ items) = known_in names items ++ record {
  name = name.id;
  meaning = meaning.Final (record { place = place.Final (length (finals_in items)); columns = made.columns; keys = made.keys });
} ∷ []
known_in names (APrint name table ∷ items) = known_in names items

-- the checker's tables for these items
abbrev pub earlier_of : List (List ℕ) → List Entry → Earlier
earlier_of names items = record {
  known = known_in names items;
  groups = groups_in items;
  folds = folds_in items;
  streams = streams_in items;
  finals = finals_in items;
  prints = prints_in items;
  printed = printed_in items;
}

-- ---- names

-- the first with this name stands for this
abbrev pub NameStandsFor : List Known → ℕ → Meaning → Type 0
NameStandsFor [] id m = ⊥
NameStandsFor (one ∷ rest) id m = ((one.name ≡ id) × (one.meaning ≡ m)) ⊎ ((one.name ≡ id → ⊥) × NameStandsFor rest id m)

-- no item has this name
abbrev pub IsFree : List Known → ℕ → Type 0
IsFree [] id = Unit {0}
IsFree (one ∷ rest) id = (one.name ≡ id → ⊥) × IsFree rest id

abbrev pub IsStream : List Known → ℕ → StreamView → Type 0
IsStream known id stream = NameStandsFor known id (meaning.Stream stream)

abbrev pub IsFold : List Known → ℕ → FoldView → Type 0
IsFold known id f = NameStandsFor known id (meaning.Fold f)

-- a table is a final's, or that of a groupby
abbrev pub IsTable : List Known → ℕ → TableView → Type 0
IsTable known id table =
    NameStandsFor known id (meaning.Final table)
    ⊎ ((stream : StreamView) × NameStandsFor known id (meaning.Stream stream) × (stream.table ≡ Some table))
