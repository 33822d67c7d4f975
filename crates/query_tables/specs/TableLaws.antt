-- The tables of a query's groupbys may be read by its finals.
use Rattle.std.specs.Prelude.{◌≡◌, ℕ, List, map, All}
use Rattle.query_lang.specs.{declared.typed.TypedQuery.TypedQuery, Streams.takings, TypedQueries.{IsValidQuery, group_shape}}
use Rattle.epoch_model.specs.Epochs.{Geometry}
use Rattle.final_queries.specs.Finals.{IsTable, table_shape}
use Rattle.query_tables.specs.Tables.{group_tables}

-- The tables of a valid query's groupbys may be read, and have the shapes of what the groupbys take.
abbrev pub QueryTablesAreRead : Type 0
QueryTablesAreRead = (q : TypedQuery) (g : Geometry) (packets : List (List ℕ)) → IsValidQuery q
    → All IsTable (group_tables q g packets)
    × (map table_shape (group_tables q g packets) ≡ map (group_shape q.folds) (takings q.streams))
