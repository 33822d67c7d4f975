-- The tables of a typed query over the packets of a trace, and what it prints.
use Rattle.std.specs.Prelude.{ℕ, suc, List, [], ◌∷◌, ◌++◌, length, flat_map, slice_get, Option, Some, None, option_map, unwrap_or}
use Rattle.query_lang.specs.{declared.{fold.TypedFold.TypedFold, typed.TypedQuery.TypedQuery}, Streams.takings, TypedFinals.table_number}
use Rattle.stage_plan.specs.Uses.{uses}
use Rattle.epoch_model.specs.Epochs.{Geometry}
use Rattle.epoch_entry.specs.Foldings.{folding_of}
use Rattle.stage_plan.specs.{Planned.fold_at, Shape.{GroupShape, query_groups}}
use Rattle.final_queries.specs.{declared.table.Table.Table, Finals.with_finals, GroupTable.{Heading, group_table}}
use Rattle.table_printer.specs.TableText.{table_text}

-- what a groupby's table says besides its rows
abbrev pub heading_of_shape : GroupShape → Heading
heading_of_shape shape = record {
  name = shape.name;
  key_names = shape.key_names;
  state_names = shape.state_names;
  class = shape.class;
  depth = shape.depth;
}

-- The table of the groupby with this number: its uses of the trace's packets, folded by its fold. A fold that is linear
-- in its state has a row for each key, over all packets of the key; any other fold has a row for each epoch, over the
-- packets of that epoch.
abbrev pub query_table : TypedQuery → Geometry → List (List ℕ) → ℕ → GroupShape → TypedFold → Table
query_table q g packets i shape f = group_table (heading_of_shape shape) (folding_of f) g (uses q i packets)

-- a groupby whose fold isn't there has no table; each groupby of a valid query has a fold
abbrev pub table_if : TypedQuery → Geometry → List (List ℕ) → ℕ → GroupShape → Option TypedFold → List Table
table_if q g packets i shape None = []
table_if q g packets i shape (Some f) = query_table q g packets i shape f ∷ []

-- the tables of groupbys in order, where the first has this number
abbrev pub tables_from : TypedQuery → Geometry → List (List ℕ) → ℕ → List GroupShape → List Table
tables_from q g packets i [] = []
tables_from q g packets i (shape ∷ shapes) = table_if q g packets i shape (fold_at q i) ++ tables_from q g packets (suc i) shapes

-- The tables of a query's groupbys over these packets, each with a word for each field.
unfoldable pub group_tables : TypedQuery → Geometry → List (List ℕ) → List Table
group_tables q g packets = tables_from q g packets 0 (query_groups q)

-- The tables of groupbys, and then those of finals.
abbrev pub query_tables : TypedQuery → Geometry → List (List ℕ) → List Table
query_tables q g packets = with_finals q.names q.folds (group_tables q g packets) q.finals

-- the text of the table with this number
abbrev pub table_text_at : List Table → ℕ → List ℕ
table_text_at tables number = unwrap_or (option_map table_text (slice_get tables number)) []

-- the texts of the printed tables, in the order of the prints
abbrev pub printed : TypedQuery → List Table → List ℕ
printed q tables = flat_map (λ one. table_text_at tables (table_number (length (takings q.streams)) one)) q.prints

-- What a query prints over these packets.
unfoldable pub query_text : TypedQuery → Geometry → List (List ℕ) → List ℕ
query_text q g packets = printed q (query_tables q g packets)
