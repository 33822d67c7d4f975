-- Tables made of tables, as functions on lists of rows.
use Rattle.std.specs.Prelude.{◌≡◌, ℕ, ◌-◌, ◌≤◌, Bool, true, false, ◌&&◌, ◌||◌, ◌==◌, nat_lt, List, [], ◌∷◌, ◌++◌, length, map, filter}
use Rattle.std.specs.{Prelude.{filter_map, find, fold, count_by, All, slice_get, Option, Some, None, option_map, unwrap_or}, Ordering.is_lt}
use Rattle.query_lang.specs.declared.{fold.{TypedExpr.TypedExpr, TypedFold.TypedFold}, typed.TypedFinal.TypedFinal}
use Rattle.query_lang.specs.{declared.typed.TypedFinalOp.{TypedFinalOp, TheVariants.{Filter, Map, Group, Join, Top}}, Words.holds}
use Rattle.query_lang.specs.{Folds.{folded, initial_state}, Streams.{expr_value, values_at}, TypedQueries.Shape}
use Rattle.epoch_model.specs.declared.tables.{Mark.{Mark, TheVariants.{Exact, Valid, Invalid, Plain}}, Row.Row}
use Rattle.epoch_model.specs.Keys.{Key, key_eq, key_cmp, ascending, IsAscending}
use Rattle.final_queries.specs.declared.table.Table.{Table}
use Rattle.final_queries.specs.declared.table.TableKind.TheVariants as kind

-- Finals read the rows that hold for all packets of their key, or for the only epoch of it; an epoch among several is passed over.
abbrev pub is_read : Mark → Bool
is_read Exact = true
is_read Valid = true
is_read Invalid = false
is_read Plain = true

abbrev pub rows_read : Table → List Row
rows_read t = filter (λ row. is_read row.mark) t.rows

-- a row as its columns: the key's words, and then the values
abbrev pub columns_of : Row → List ℕ
columns_of row = row.key ++ row.values

-- a row of a final
abbrev pub plain_row : Key → List ℕ → Row
plain_row key values = record { key = key; mark = Plain; epoch = 0; epochs = 0; values = values }

abbrev pub is_of_key : Key → Row → Bool
is_of_key key row = key_eq row.key key

-- `filter`: the rows where the condition holds
abbrev pub filtered_rows : TypedExpr → List Row → List Row
filtered_rows condition rows = map (λ row. plain_row row.key row.values)
    (filter (λ row. holds (expr_value condition (columns_of row))) rows)

-- `map`: each row with the new values after its old ones
unfoldable pub mapped_row : List TypedExpr → Row → Row
mapped_row values row = plain_row row.key (row.values ++ map (λ e. expr_value e (columns_of row)) values)

abbrev pub mapped_rows : List TypedExpr → List Row → List Row
mapped_rows values rows = map (mapped_row values) rows

-- `groupby`: a row for each key, in ascending order, with the fold over the arguments of the rows that have it, in their order
abbrev pub grouped_key : List ℕ → Row → Key
grouped_key keys row = values_at (columns_of row) keys

abbrev pub grouped_args : List ℕ → List ℕ → List Row → Key → List (List ℕ)
grouped_args keys args rows key = map (λ row. values_at (columns_of row) args) (filter (λ row. key_eq (grouped_key keys row) key) rows)

abbrev pub grouped_rows : List ℕ → Option TypedFold → List ℕ → List Row → List Row
grouped_rows keys None args rows = []
grouped_rows keys (Some f) args rows =
    map (λ key. plain_row key (folded f (initial_state f) (grouped_args keys args rows key))) (ascending (map (grouped_key keys) rows))

-- `join`: a row for each key in both, with the left values and then the right ones
abbrev pub joined_rows : List Row → List Row → List Row
joined_rows left right =
    filter_map (λ row. option_map (λ other. plain_row row.key (row.values ++ other.values)) (find (is_of_key row.key) right)) left

-- `top`: a row goes before another where its column is greater, or where it is equal and its key is smaller
abbrev pub column_at : ℕ → Row → ℕ
column_at column row = unwrap_or (slice_get (columns_of row) column) 0

abbrev pub goes_before : ℕ → Row → Row → Bool
goes_before column row other =
    nat_lt (column_at column other) (column_at column row)
    || ((column_at column other == column_at column row) && is_lt (key_cmp row.key other.key))

-- the rows that fewer than this many others go before
abbrev pub top_rows : ℕ → ℕ → List Row → List Row
top_rows column kept rows =
    map (λ row. plain_row row.key row.values) (filter (λ row. nat_lt (count_by (λ other. goes_before column other row) rows) kept) rows)

-- the rows of the table with this number that a final reads
abbrev pub read_at : List Table → ℕ → List Row
read_at tables number = unwrap_or (option_map rows_read (slice_get tables number)) []

abbrev pub final_rows : List TypedFold → List Table → TypedFinalOp → List Row
final_rows folds tables (Filter input condition) = filtered_rows condition (read_at tables input)
final_rows folds tables (Map input values) = mapped_rows values (read_at tables input)
final_rows folds tables (Group input keys f args) = grouped_rows keys (slice_get folds f) args (read_at tables input)
final_rows folds tables (Join left right) = joined_rows (read_at tables left) (read_at tables right)
final_rows folds tables (Top input column kept) = top_rows column kept (read_at tables input)

-- the text of a name by its number
abbrev pub name_text : List (List ℕ) → ℕ → List ℕ
name_text names id = unwrap_or (slice_get names id) []

-- The table that a final makes of the tables before it.
abbrev pub final_table : List (List ℕ) → List TypedFold → List Table → TypedFinal → Table
final_table names folds tables one = record {
  name = name_text names one.name.id;
  columns = map (name_text names) one.columns;
  keys = one.keys;
  kind = kind.Final;
  rows = final_rows folds tables one.op;
}

-- The tables of groupbys, and then those of finals, each made of the tables before it.
abbrev pub with_finals : List (List ℕ) → List TypedFold → List Table → List TypedFinal → List Table
with_finals names folds tables finals = fold (λ known one. known ++ final_table names folds known one ∷ []) tables finals

-- how many columns a table has, and how many of them are keys
abbrev pub table_shape : Table → Shape
table_shape t = record { width = length t.columns; keys = t.keys }

-- a row of a table with this many key columns and this many others
pub record HasColumns (keys others : ℕ) (row : Row) : Type 0 where
  pub key : length row.key ≡ keys
  pub values : length row.values ≡ others

-- A table that finals may read: its rows have its columns, and the rows that are read have distinct keys in ascending order.
pub record IsTable (t : Table) : Type 0 where
  pub keys : t.keys ≤ length t.columns
  pub rows : All (HasColumns t.keys (length t.columns - t.keys)) t.rows
  pub order : IsAscending (map (λ row. row.key) (rows_read t))
