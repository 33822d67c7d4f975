-- A store that holds the rows of a table, one by one, has the rows of the table grouped.
use Rattle.std.proofs.Common.{◌≡◌, ℕ, ◌+◌, Bool, false, List, [], ◌∷◌, ◌++◌, Some, length, map, take, slice_get, refl, sym, ap, ◌∙◌}
use Rattle.std.proofs.lemmas.{List.{map-append, take_more, Elements.filter-append}, Option.{slice_get_within, get_or_from_slice_get}}
use Rattle.std.specs.List.{flat_map}
use Rattle.query_lang.specs.{declared.fold.TypedFold.TypedFold, Folds.{folded, initial_state}}
use Rattle.epoch_model.specs.{declared.tables.Row.Row, Keys.{Key, key_eq}, Machine.lists_of, Tables.{exact_row, closed_keys}}
use Rattle.epoch_model.proofs.KeyLists.{by_test}
use Rattle.backing_store.specs.{Store.{Store, IsStore}, SortedRows.sorted_rows, HeldRows.HeldRowsAreTheTables}
use Rattle.backing_store.specs.Merged.{StoreHolds, shown_row}
use Rattle.final_queries.specs.Finals.{is_read, plain_row, grouped_key, grouped_args, grouped_rows}
use Rattle.final_queries.specs.{Grouped.{whole_folding, row_epoch, row_epochs, plain_of}, Joining.reads}

-- the rows of a key, joined, are the arguments of the rows with that key
args_of : (keys args : List ℕ) (rows : List Row) (key : Key) → flat_map (λ rs. rs) (lists_of key (row_epochs keys args rows)) ≡ grouped_args
    keys args rows key
args_of keys args [] key = refl
args_of keys args (row ∷ rows) key = by_test (key_eq (grouped_key keys row) key)
    (λ t. rw (t, args_of keys args rows key) refl)
    (λ t. rw t (args_of keys args rows key))

keys_of : (keys args : List ℕ) (rows : List Row) → map (λ epoch. epoch.key) (row_epochs keys args rows) ≡ map (grouped_key keys) rows
keys_of keys args [] = refl
keys_of keys args (row ∷ rows) = rw (keys_of keys args rows) refl

plain_shown : (rows : List Row) → map plain_of rows ≡ map plain_of (map (shown_row false) rows)
plain_shown [] = refl
plain_shown (row ∷ rows) = rw (plain_shown rows) refl

one_each : (f : TypedFold) (keys args : List ℕ) (rows : List Row) (ks : List Key)
    → map plain_of (flat_map (λ k. exact_row (whole_folding f) k (length (lists_of k (row_epochs keys args rows)))
    (flat_map (λ rs. rs) (lists_of k (row_epochs keys args rows))) ∷ []) ks)
    ≡ map (λ key. plain_row key (folded f (initial_state f) (grouped_args keys args rows key))) ks
one_each f keys args rows [] = refl
one_each f keys args rows (k ∷ ks) = rw (args_of keys args rows k, one_each f keys args rows ks) refl

-- the epochs of the rows that are read, with one more row
pub epochs_more : (keys args : List ℕ) (rows : List Row) (at : ℕ) (row : Row) → slice_get rows at ≡ Some row
    → row_epochs keys args (reads (take at rows)) ++ row_epochs keys args (reads (row ∷ [])) ≡ row_epochs keys args
    (reads (take (at + 1) rows))
epochs_more keys args rows at row here =
    let test : Row → Bool = λ r. is_read r.mark in
    let one_more = take_more rows at row (slice_get_within rows at row here)
    ∙ ap (λ r. take at rows ++ r ∷ []) (get_or_from_slice_get rows at row row here) in
    sym (ap (row_epochs keys args) (ap reads one_more ∙ filter-append test (take at rows) (row ∷ []))
    ∙ map-append (row_epoch keys args) (reads (take at rows)) (reads (row ∷ [])))

-- The rows of the store are those of the grouped table.
pub rows_grouped : HeldRowsAreTheTables → (f : TypedFold) (keys args : List ℕ) (rows : List Row) (store : Store) → IsStore store
    → StoreHolds (whole_folding f) store (row_epochs keys args rows)
    → map plain_of (sorted_rows store) ≡ grouped_rows keys (Some f) args rows
rows_grouped law f keys args rows store s h =
    plain_shown (sorted_rows store)
    ∙ rw (
      law.rows (whole_folding f) store (row_epochs keys args rows) s h,
      one_each f keys args rows (closed_keys (row_epochs keys args rows)),
      keys_of keys args rows,
    ) refl
