-- Finals may read what is shown of a query's groupbys.
use Rattle.std.specs.Prelude.{◌≡◌, ℕ, List, All, map}
use Rattle.query_lang.specs.{declared.typed.TypedQuery.TypedQuery, Streams.takings, TypedQueries.{IsValidQuery, group_shape}}
use Rattle.epoch_model.specs.Epochs.{Geometry}
use Rattle.final_queries.specs.Finals.{IsTable, table_shape}
use Rattle.enclosure_folds.specs.declared.table.Enclosed.{Enclosed}
use Rattle.enclosure_folds.specs.declared.table.Enclosed.TheVariants as enclosed
use Rattle.enclosure_folds.specs.BoundsTables.{IsBoundsTable}
use Rattle.enclosed_query.specs.EnclosedTables.{enclosed_tables, table_read}

-- a table of bounds has 1 to 8 keys, and the words that its names say
abbrev pub IsWhole : Enclosed → Type 0
IsWhole (enclosed.Linear t) = Unit {0}
IsWhole (enclosed.Bounds t) = IsBoundsTable t

-- What finals read of the groupbys of a valid query may be read, and has the shapes of what the groupbys take.
pub record EnclosedTablesAreRead : Type 0 where
  pub read : (q : TypedQuery) (g : Geometry) (packets : List (List ℕ)) → IsValidQuery q → All IsWhole (enclosed_tables q g packets)
      → All IsTable (map table_read (enclosed_tables q g packets))
  pub shapes : (q : TypedQuery) (g : Geometry) (packets : List (List ℕ)) → IsValidQuery q
      → map table_shape (map table_read (enclosed_tables q g packets)) ≡ map (group_shape q.folds) (takings q.streams)
