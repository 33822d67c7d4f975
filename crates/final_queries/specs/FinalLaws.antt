-- Which tables finals may read, and which foldings make the same table.
use Rattle.std.specs.Prelude.{◌≡◌, ℕ, List, length, map, All}
use Rattle.query_lang.specs.{declared.{fold.TypedFold.TypedFold, typed.TypedFinal.TypedFinal}, Folds.IsValidFold}
use Rattle.query_lang.specs.TypedQueries.{IsValidFinal, final_shape}
use Rattle.epoch_model.specs.{Keys.ArgRow, Epochs.{Use, Geometry}, Machine.Epoch, Tables.{Folding, folded}}
use Rattle.final_queries.specs.{declared.table.Table.Table, GroupTable.{Heading, group_table, closed_table}}
use Rattle.final_queries.specs.Finals.{IsTable, table_shape, final_table}

-- The table of a groupby may be read, where the keys of its uses have the heading's key columns and its states the other columns.
abbrev pub GroupTablesAreRead : Type 0
GroupTablesAreRead = (heading : Heading) (f : Folding) (g : Geometry) (uses : List Use)
    → All (λ u. length u.key ≡ length heading.key_names) uses
    → ((rows : List ArgRow) → length (folded f rows) ≡ length heading.state_names)
    → IsTable (group_table heading f g uses)

-- The table of a valid final over tables that may be read may be read too, and has the final's shape.
abbrev pub FinalTablesAreRead : Type 0
FinalTablesAreRead = (names : List (List ℕ)) (folds : List TypedFold) (tables : List Table) (one : TypedFinal)
    → All IsValidFold folds → IsValidFinal (length names) folds (map table_shape tables) one → All IsTable tables
    → IsTable (final_table names folds tables one) × (table_shape (final_table names folds tables one) ≡ final_shape one)

-- two foldings that give each list of argument rows the same state
pub record AreAlike (f g : Folding) : Type 0 where
  pub row_per_epoch : f.row_per_epoch ≡ g.row_per_epoch
  pub states : (rows : List ArgRow) → folded f rows ≡ folded g rows

-- They make the same tables.
pub record AlikeFoldingsMakeOneTable : Type 0 where
  pub by_uses : (heading : Heading) (f g : Folding) (geometry : Geometry) (uses : List Use) → AreAlike f g
      → group_table heading f geometry uses ≡ group_table heading g geometry uses
  pub by_closed : (heading : Heading) (f g : Folding) (closed : List Epoch) → AreAlike f g
      → closed_table heading f closed ≡ closed_table heading g closed
