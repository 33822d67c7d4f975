-- The tables of a query over several switches, each with separate caches, and what the query prints.
use Rattle.std.specs.Prelude.{ℕ, suc, ◌==◌, List, [], ◌∷◌, ◌++◌, length, map, filter, flat_map, sum_by, slice_index, Option, Some, None}
use Rattle.std.specs.Prelude.{if◌then◌else◌}
use Rattle.marple_base.specs.{declared.field.Field.TheVariants.Switch, Field.number_of}
use Rattle.query_lang.specs.declared.{fold.TypedFold.TypedFold, typed.TypedQuery.TypedQuery}
use Rattle.stage_plan.specs.Uses.{uses}
use Rattle.epoch_model.specs.{declared.tables.Row.Row, Keys.{Key, ArgRow, ascending}, Epochs.{Use, Geometry, is_use_of, epochs}}
use Rattle.epoch_model.specs.Tables.{Folding, exact_row, epoch_rows, epochs_shown, keys_used}
use Rattle.epoch_entry.specs.Foldings.{folding_of}
use Rattle.stage_plan.specs.{Planned.fold_at, Shape.{GroupShape, query_groups}}
use Rattle.final_queries.specs.{declared.table.{Table.Table, TableKind.TheVariants.Group}, Finals.with_finals}
use Rattle.query_tables.specs.Tables.{printed}

-- the switch of a packet with these words
abbrev pub switch_in : List ℕ → ℕ
switch_in words = slice_index words (number_of Switch)

-- the packets of one switch, in order
abbrev pub packets_at : ℕ → List (List ℕ) → List (List ℕ)
packets_at switch packets = filter (λ words. switch_in words == switch) packets

-- the switches of the packets in ascending order, each once; they are put in order as keys of one word
abbrev pub switches : List (List ℕ) → List ℕ
switches packets = map (λ key. slice_index key 0) (ascending (map (λ words. switch_in words ∷ []) packets))

-- a switch's caches, with this number of buckets and ways and no refresh
abbrev pub caches_of : ℕ → ℕ → Geometry
caches_of buckets ways = record { buckets = buckets; ways = ways; refresh = 0 }

-- what the groupby takes of the packets of one switch, as if there were no others
abbrev pub uses_at : TypedQuery → ℕ → List (List ℕ) → ℕ → List Use
uses_at q i packets switch = uses q i (packets_at switch packets)

-- The epochs of a key: switch by switch, in ascending order, those into which the switch's caches cut what it gives the key.
abbrev pub net_epochs : TypedQuery → ℕ → Geometry → List (List ℕ) → Key → List (List ArgRow)
net_epochs q i g packets key = flat_map (λ switch. epochs g (uses_at q i packets switch) key) (switches packets)

-- all argument rows of the key in the order of the trace, whatever the switch
abbrev pub key_args : Key → List Use → List ArgRow
key_args key used = map (λ u. u.row) (filter (is_use_of key) used)

-- the key's table rows: one for each of these epochs, or one for all of the key's argument rows
abbrev pub net_key_rows : Folding → List (List ArgRow) → List ArgRow → Key → List Row
net_key_rows f pieces args key =
    if f.row_per_epoch then epoch_rows f key (length pieces) 1 pieces else (exact_row f key (length pieces) args ∷ [])

-- The rows of the groupby's table, by the keys of all switches in ascending order, where these are the pieces of each key.
abbrev pub net_rows : TypedQuery → ℕ → List (List ℕ) → (Key → List (List ArgRow)) → Folding → List Row
net_rows q i packets pieces f =
    flat_map (λ key. net_key_rows f (pieces key) (key_args key (uses q i packets)) key) (keys_used (uses q i packets))

-- The number of pieces over all keys of the table.
abbrev pub net_count : TypedQuery → ℕ → List (List ℕ) → (Key → List (List ArgRow)) → ℕ
net_count q i packets pieces = epochs_shown (sum_by (λ key. length (pieces key)) (keys_used (uses q i packets)))

-- The table of the groupby with this number over the packets of several switches, where these are the pieces of each key.
abbrev pub net_table : TypedQuery → List (List ℕ) → (Key → List (List ArgRow)) → ℕ → GroupShape → TypedFold → Table
net_table q packets pieces i shape f = record {
  name = shape.name;
  columns = shape.key_names ++ shape.state_names;
  keys = length shape.key_names;
  kind = Group shape.class shape.depth (net_count q i packets pieces);
  rows = net_rows q i packets pieces (folding_of f);
}

-- a groupby whose fold isn't there has no table; each groupby of a valid query has a fold
abbrev pub net_table_if : TypedQuery → List (List ℕ) → (Key → List (List ArgRow)) → ℕ → GroupShape → Option TypedFold → List Table
net_table_if q packets pieces i shape None = []
net_table_if q packets pieces i shape (Some f) = net_table q packets pieces i shape f ∷ []

-- the tables of groupbys in order, where the first has this number, and each groupby its own pieces
abbrev pub net_tables_from : TypedQuery → List (List ℕ) → (ℕ → Key → List (List ArgRow)) → ℕ → List GroupShape → List Table
net_tables_from q packets pieces i [] = []
net_tables_from q packets pieces i (shape ∷ shapes) =
    net_table_if q packets (pieces i) i shape (fold_at q i) ++ net_tables_from q packets pieces (suc i) shapes

-- The tables of a query's groupbys over the packets of several switches, where these are the pieces of each groupby's keys.
unfoldable pub tables_of_pieces : TypedQuery → List (List ℕ) → (ℕ → Key → List (List ArgRow)) → List Table
tables_of_pieces q packets pieces = net_tables_from q packets pieces 0 (query_groups q)

-- the epochs of each key, by the groupby's number
abbrev pub net_pieces : TypedQuery → Geometry → List (List ℕ) → ℕ → Key → List (List ArgRow)
net_pieces q g packets i = net_epochs q i g packets

-- The tables of the definition: the pieces are the epochs.
abbrev pub net_tables : TypedQuery → Geometry → List (List ℕ) → List Table
net_tables q g packets = tables_of_pieces q packets (net_pieces q g packets)

-- What a query prints over the packets of several switches, whose caches have this number of buckets and ways: the tables of its
-- groupbys and finals, in the order of its prints.
unfoldable pub net_text : TypedQuery → ℕ → ℕ → List (List ℕ) → List ℕ
net_text q buckets ways packets = printed q (with_finals q.names q.folds (net_tables q (caches_of buckets ways) packets) q.finals)
