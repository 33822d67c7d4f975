-- The table of a lane whose closed epochs are all merged.
use Rattle.std.proofs.{Common.{◌≡◌, ℕ, List, ◌++◌, length, take, ap, ◌∙◌}, Math.Seq.take-length}
use Rattle.epoch_model.specs.{declared.tables.Row.Row, Machine.{Epoch, Machine}, Tables.{Folding, closed_rows, closed_epochs}}
use Rattle.backing_store.specs.{Store.Store, Merged.StoreHolds}
use Rattle.final_queries.specs.{declared.table.{Table.Table, TableKind.TheVariants.Group}, GroupTable.{Heading, closed_table}}

-- with all closed epochs merged the store holds them
pub all_held : (f : Folding) (store : Store) (m : Machine) → m.merged ≡ length m.closed → StoreHolds f store (take m.merged m.closed)
    → StoreHolds f store m.closed
all_held f store m e h = rw (ap (λ n. take n m.closed) e ∙ take-length m.closed) at h

-- A table is determined by its parts.
pub table_is : (heading : Heading) (f : Folding) (closed : List Epoch) (name : List ℕ) (columns : List (List ℕ)) (keys epochs : ℕ)
    (rows : List Row)
    → name ≡ heading.name → columns ≡ heading.key_names ++ heading.state_names → keys ≡ length heading.key_names
    → epochs ≡ closed_epochs closed → rows ≡ closed_rows f closed
    → let table : Table = record {
      name = name;
      columns = columns;
      keys = keys;
      kind = Group heading.class heading.depth epochs;
      rows =
          rows;
    } in table ≡ closed_table heading f closed
table_is heading f closed name columns keys epochs rows a b d e r = rw (a, b, d, e, r)
