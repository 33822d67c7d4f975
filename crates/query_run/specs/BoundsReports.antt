-- What a query prints of the tables of its groupbys where bounds are asked for.
use Rattle.std.specs.Prelude.{◌≡◌, ℕ, List, All, map}
use Rattle.query_lang.specs.{declared.typed.TypedQuery.TypedQuery, Streams.takings, TypedQueries.{IsValidQuery, group_shape}}
use Rattle.final_queries.specs.{declared.table.Table.Table, Finals.{IsTable, table_shape}}
use Rattle.enclosure_folds.specs.Shown.{MayBeShown, shown}
use Rattle.enclosed_query.specs.{EnclosedTables.{enclosed_print, table_read}, Reading.IsWhole}

-- these tables of a valid query's groupbys may be shown, and its finals may read what is shown
pub record AreBoundsTables (q : TypedQuery) (tables : List Table) : Type 0 where
  pub valid : IsValidQuery q
  pub may : All MayBeShown tables
  pub whole : All IsWhole (map shown tables)
  pub read : All IsTable (map table_read (map shown tables))
  pub shapes : map table_shape (map table_read (map shown tables)) ≡ map (group_shape q.folds) (takings q.streams)

-- what a query prints of what is shown of these tables
abbrev pub bounds_print : TypedQuery → List Table → List ℕ
bounds_print q tables = enclosed_print q (map shown tables)
