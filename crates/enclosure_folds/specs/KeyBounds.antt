-- The table of bounds of a groupby: by the uses of the whole trace, and by the rows that a table of three states has for its epochs.
use Rattle.std.specs.Prelude.{◌≡◌, ℕ, ◌-◌, ◌*◌, ◌<◌, ◌≤◌, Bool, true, false, List, [], ◌∷◌, All, length, map, filter, take, drop}
use Rattle.std.specs.Prelude.{if◌then◌else◌}
use Rattle.query_lang.specs.declared.{fold.TypedFold.TypedFold, typed.Class.Class}
use Rattle.query_lang.specs.declared.typed.Class.TheVariants as class
use Rattle.query_lang.specs.{Folds.{folded, fold_states, initial_state, IsValidFold}, Words.AreWords, declared.fault.TheConstants.MAX_KEYS}
use Rattle.epoch_model.specs.{declared.tables.{Mark.{Mark, TheVariants.Valid}, Row.Row}, Keys.{Key, ArgRow, key_eq}}
use Rattle.epoch_model.specs.{Epochs.{Use, Geometry, is_use_of, epochs}, Tables.{Folding, epochs_shown, keys_used, group_epochs}}
use Rattle.fold_class.specs.Kinds.{class_of}
use Rattle.enclosure_folds.specs.{Kinds.is_monotone, declared.table.{BoundsRow.BoundsRow, BoundsTable.BoundsTable, Enclosed.Enclosed}}
use Rattle.epoch_entry.specs.{Bounds.{bounds_after, IsBoundsKindOf}, Foldings.folding_of, Kinds.Sizes}
use Rattle.epoch_entry.specs.Triples.{first_third, second_third, last_third}
use Rattle.final_queries.specs.{declared.table.{Table.Table, TableKind.{TableKind, TheVariants.{Group, Final}}}, Finals.HasColumns}
use Rattle.final_queries.specs.GroupTable.{Heading, group_table}
use Rattle.enclosure_folds.specs.declared.table.Enclosed.TheVariants as enclosed
use Rattle.enclosure_folds.specs.{BoundsTables.IsBoundsTable, Bounds.{low_bound, high_bound, Encloses}}

-- By the uses of a trace.

-- the row of a key with these row lists, one for each of its epochs: the bounds by what each epoch is folded to from the initial state,
-- the least and the greatest
abbrev pub listed_bounds : TypedFold → Key → List (List ArgRow) → BoundsRow
listed_bounds f key lists =
    let states = map (bounds_after f) lists in
    record {
      key = key;
      epochs = epochs_shown (length lists);
      low = low_bound (fold_states f) states;
      high = high_bound (fold_states f) states;
    }

-- the row of a key by the epochs into which its uses are cut
abbrev pub key_bounds : TypedFold → Geometry → List Use → Key → BoundsRow
key_bounds f g uses key = listed_bounds f key (epochs g uses key)

-- The table of a groupby that takes these uses: a row for each key, in ascending order.
abbrev pub bounds_table : Heading → TypedFold → Geometry → List Use → BoundsTable
bounds_table heading f g uses = record {
  name = heading.name;
  key_names = heading.key_names;
  state_names = heading.state_names;
  depth = heading.depth;
  epochs = group_epochs g uses;
  rows = map (key_bounds f g uses) (keys_used uses);
}

-- What is shown of a groupby: a linear fold has its table, and any other fold a table of bounds.
abbrev pub enclosed_by : Class → Heading → TypedFold → Geometry → List Use → Enclosed
enclosed_by class.Linear heading f g uses = enclosed.Linear (group_table heading (folding_of f) g uses)
enclosed_by class.Other heading f g uses = enclosed.Bounds (bounds_table heading f g uses)

abbrev pub enclosed_table : Heading → TypedFold → Geometry → List Use → Enclosed
enclosed_table heading f g uses = enclosed_by (class_of f) heading f g uses

-- By the rows of a table whose values are three states side by side, with a row for each epoch.

-- whether the next row is of this key too
abbrev pub goes_on : Key → List Row → Bool
goes_on key [] = false
goes_on key (next ∷ rows) = key_eq key next.key

-- the bounds that a key's last row gives: its first state where it is of the only epoch, and else the second and the third
abbrev pub low_in : ℕ → Mark → List ℕ → List ℕ
low_in n Valid triple = first_third n triple
low_in n _ triple = second_third n triple

abbrev pub high_in : ℕ → Mark → List ℕ → List ℕ
high_in n Valid triple = first_third n triple
high_in n _ triple = last_third n triple

abbrev pub row_bounds : ℕ → Row → BoundsRow
row_bounds n row = record { key = row.key; epochs = row.epochs; low = low_in n row.mark row.values; high = high_in n row.mark row.values }

-- one row of bounds for each run of rows of one key
abbrev pub bounds_in : ℕ → List Row → List BoundsRow
bounds_in n [] = []
bounds_in n (row ∷ rows) = if goes_on row.key rows then bounds_in n rows else (row_bounds n row ∷ bounds_in n rows)

abbrev pub depth_in : TableKind → ℕ
depth_in (Group class depth epochs) = depth
depth_in Final = 0

abbrev pub epochs_in : TableKind → ℕ
epochs_in (Group class depth epochs) = epochs
epochs_in Final = 0

-- the number of columns after the keys
abbrev pub states_in : Table → ℕ
states_in t = length t.columns - t.keys

-- The table of bounds that such a table gives.
abbrev pub table_bounds : Table → BoundsTable
table_bounds t = record {
  name = t.name;
  key_names = take t.keys t.columns;
  state_names = drop t.keys t.columns;
  depth = depth_in t.kind;
  epochs = epochs_in t.kind;
  rows = bounds_in (states_in t) t.rows;
}

-- a table with three states in each of its rows
pub record HasTriples (t : Table) : Type 0 where
  pub keys : t.keys ≤ length t.columns
  pub rows : All (HasColumns t.keys (3 * states_in t)) t.rows

-- The rows of a groupby's epochs, by entries for a fold's bounds, give its table of bounds.
abbrev pub EpochRowsGiveBounds : Type 0
EpochRowsGiveBounds = (heading : Heading) (f : TypedFold) (sizes : Sizes) (folding : Folding) (opening absorbing : ℕ)
    (g : Geometry) (uses : List Use)
    → IsBoundsKindOf f sizes folding opening absorbing → length heading.state_names ≡ fold_states f
    → table_bounds (group_table heading folding g uses) ≡ bounds_table heading f g uses

-- the argument rows of all uses of a key
abbrev pub use_rows : List Use → Key → List ArgRow
use_rows uses key = map (λ u. u.row) (filter (is_use_of key) uses)

-- For each key that has a use, the bounds of a monotone fold enclose the fold over the rows of all uses of the key,
-- word by word. Where they are equal, both are that fold.
abbrev pub KeyBoundsEnclose : Type 0
KeyBoundsEnclose = (f : TypedFold) (g : Geometry) (uses : List Use) (key : Key) → IsValidFold f → is_monotone f ≡ true
    → AreWords (initial_state f) → All AreWords (use_rows uses key)
    → 0 < length (use_rows uses key)
    → Encloses (key_bounds f g uses key).low (key_bounds f g uses key).high (folded f (initial_state f) (use_rows uses key))

-- The table of bounds that a table of three states gives has as many words in its rows as names.
abbrev pub TriplesGiveWholeTables : Type 0
TriplesGiveWholeTables = (t : Table) → HasTriples t → 0 < t.keys → t.keys ≤ MAX_KEYS → IsBoundsTable (table_bounds t)
