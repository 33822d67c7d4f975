-- The text of tables that are printed in turn, by their numbers.
use Rattle.std.proofs.Common.{refl, ◌≡◌, ◌<◌, ℕ, List, ◌+◌, ◌++◌, Some, drop, get_or, length, slice_get}
use Rattle.std.{proofs.lemmas.List.{drop_more}, specs.List.flat_map}
use Rattle.final_queries.specs.declared.table.Table.{Table}
use Rattle.table_printer.specs.TableText.{table_text}
use Rattle.query_tables.specs.Tables.{table_text_at}

-- the text of the next table, and then those after it
pub next_table : {A : Type 0} (number_of : A → ℕ) (tables : List Table) (items : List A) (i number : ℕ) (one : A) (t : Table)
    → i < length items → number ≡ number_of (get_or items i one) → slice_get tables number ≡ Some t
    → flat_map (λ one. table_text_at tables (number_of one)) (drop i items)
    ≡ table_text t ++ flat_map (λ one. table_text_at tables (number_of one)) (drop (i + 1) items)
next_table number_of tables items i number one t within is at = rw (drop_more items i one within, ← is, at) refl
