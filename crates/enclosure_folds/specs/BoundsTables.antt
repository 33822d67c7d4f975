-- Tables of bounds: their text, and the rows that finals read of them.
use Rattle.std.specs.Prelude.{◌≡◌, ℕ, ◌<◌, ◌≤◌, Bool, true, false, List, [], ◌∷◌, ◌++◌, All, length, map, filter, flat_map, codes, decimal}
use Rattle.query_lang.specs.declared.{typed.Class.TheVariants.Other, fault.TheConstants.MAX_KEYS}
use Rattle.epoch_model.specs.{declared.tables.{Mark.TheVariants.Exact, Row.Row}, Keys.IsAscending}
use Rattle.final_queries.specs.{declared.table.{Table.Table, TableKind.TheVariants.Group}, Finals.IsTable}
use Rattle.table_printer.specs.TableText.{table_line, numbers}
use Rattle.enclosure_folds.specs.{declared.table.{BoundsTable.BoundsTable, BoundsRow.BoundsRow}, Bounds.is_exact}

-- a row with this many words in its key, and this many in each of its bounds
pub record HasBounds (keys states : ℕ) (row : BoundsRow) : Type 0 where
  pub key : length row.key ≡ keys
  pub low : length row.low ≡ states
  pub high : length row.high ≡ states

-- there are 1 to 8 keys, and the rows have a word for each of them and a word in each bound for each state
pub record IsBoundsTable (t : BoundsTable) : Type 0 where
  pub some_keys : 0 < length t.key_names
  pub most_keys : length t.key_names ≤ MAX_KEYS
  pub rows : All (HasBounds (length t.key_names) (length t.state_names)) t.rows

-- whether a row's bounds are equal
abbrev pub row_is_exact : BoundsRow → Bool
row_is_exact row = is_exact row.low row.high

-- The text.

abbrev pub mark_text : Bool → List ℕ
mark_text true = codes "exact"
mark_text false = codes "within"

-- the words of the bounds in turn: the low one and the high one of the first state, then those of the second, and so on
abbrev pub in_turn : List ℕ → List ℕ → List ℕ
in_turn (l ∷ low) (h ∷ high) = l ∷ h ∷ in_turn low high
in_turn _ _ = []

-- the names of a state's two columns
abbrev pub bound_names : List ℕ → List (List ℕ)
bound_names name = (name ++ codes ".lo") ∷ (name ++ codes ".hi") ∷ []

abbrev pub bounds_title : BoundsTable → List ℕ
bounds_title t = codes "table " ++ t.name ++ codes " bounds " ++ decimal t.depth ++ (32 ∷ decimal t.epochs) ++ 10 ∷ []

-- the names of the columns: the keys, the mark, the number of epochs, and two for each state
abbrev pub bounds_heading : BoundsTable → List (List ℕ)
bounds_heading t = t.key_names ++ (codes "mark" ∷ codes "epochs" ∷ []) ++ flat_map bound_names t.state_names

abbrev pub bounds_parts : BoundsRow → List (List ℕ)
bounds_parts row = numbers row.key ++ (mark_text (row_is_exact row) ∷ decimal row.epochs ∷ []) ++ numbers (in_turn row.low row.high)

-- The text of a table of bounds: a line that says what it is, a heading, and a line for each row.
abbrev pub bounds_text : BoundsTable → List ℕ
bounds_text t = bounds_title t ++ table_line (bounds_heading t) ++ flat_map (λ row. table_line (bounds_parts row)) t.rows

-- What finals read.

-- a row whose bounds are equal, with these as values
abbrev pub exact_row : BoundsRow → Row
exact_row row = record { key = row.key; mark = Exact; epoch = 0; epochs = row.epochs; values = row.low }

-- The table of the rows whose bounds are equal, which hold for all packets of their key. The other rows are left out.
abbrev pub exact_table : BoundsTable → Table
exact_table t = record {
  name = t.name;
  columns = t.key_names ++ t.state_names;
  keys = length t.key_names;
  kind = Group Other t.depth t.epochs;
  rows = map exact_row (filter row_is_exact t.rows);
}

-- Where the keys of its rows ascend, finals may read them.
abbrev pub ExactTablesAreRead : Type 0
ExactTablesAreRead = (t : BoundsTable) → IsBoundsTable t → IsAscending (map (λ row. row.key) t.rows) → IsTable (exact_table t)
