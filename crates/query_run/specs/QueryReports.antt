-- What a query prints of the tables of its groupbys.
use Rattle.std.specs.Prelude.{◌≡◌, ℕ, List, All, map}
use Rattle.query_lang.specs.{declared.typed.TypedQuery.TypedQuery, Streams.takings, TypedQueries.{IsValidQuery, group_shape}}
use Rattle.final_queries.specs.{declared.table.Table.Table, Finals.{IsTable, table_shape, with_finals}}
use Rattle.query_tables.specs.Tables.{printed}

-- a valid query's finals may read these tables as those of its groupbys
pub record AreGroupTables (q : TypedQuery) (tables : List Table) : Type 0 where
  pub valid : IsValidQuery q
  pub shapes : map table_shape tables ≡ map (group_shape q.folds) (takings q.streams)
  pub read : All IsTable tables

-- the texts of the printed tables, where these are the tables of the groupbys
abbrev pub query_print : TypedQuery → List Table → List ℕ
query_print q tables = printed q (with_finals q.names q.folds tables q.finals)
