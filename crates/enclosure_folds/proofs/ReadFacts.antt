-- Finals may read the rows whose bounds are equal.
use Rattle.std.proofs.Common.{◌≡◌, ℕ, ◌-◌, List, [], ◌∷◌, ◌++◌, length, map, arith, length-append}
use Rattle.std.{proofs.lemmas.List.Elements.{All-nil, All-cons, All-head, All-tail}, specs.List.{All, filter}}
use Rattle.epoch_model.{specs.{declared.tables.Row.Row, Keys.{Key, AreAbove, IsAscending}}, proofs.KeyLists.by_test}
use Rattle.final_queries.specs.Finals.{HasColumns, is_read}
use Rattle.enclosure_folds.specs.{declared.table.BoundsRow.BoundsRow, BoundsTables.{HasBounds, row_is_exact, exact_row, ExactTablesAreRead}}

abbrev key_of : BoundsRow → Key
key_of row = row.key

abbrev rows_made : List BoundsRow → List Row
rows_made rows = map exact_row (filter row_is_exact rows)

abbrev keys_read : List BoundsRow → List Key
keys_read rows = map (λ row. row.key) (filter (λ row. is_read row.mark) (rows_made rows))

have_columns : (keys states : ℕ) (rows : List BoundsRow) → All (HasBounds keys states) rows → All (HasColumns keys states) (rows_made rows)
have_columns keys states [] all = All-nil (HasColumns keys states)
have_columns keys states (row ∷ rows) all =
    let here = All-head (HasBounds keys states) row rows all in
    let later = have_columns keys states rows (All-tail (HasBounds keys states) row rows all) in
    by_test (row_is_exact row)
    (λ t. rw t (All-cons (HasColumns keys states) (exact_row row) (rows_made rows) (record { key = here.key; values = here.low }) later))
    (λ t. rw t later)

above_read : (low : Key) (rows : List BoundsRow) → AreAbove low (map key_of rows) → AreAbove low (keys_read rows)
above_read low [] above = tt
above_read low (row ∷ rows) above = by_test (row_is_exact row)
    (λ t. rw t (above.0, above_read low rows above.1))
    (λ t. rw t (above_read low rows above.1))

order_read : (rows : List BoundsRow) → IsAscending (map key_of rows) → IsAscending (keys_read rows)
order_read [] order = tt
order_read (row ∷ rows) order = by_test (row_is_exact row)
    (λ t. rw t (above_read row.key rows order.0, order_read rows order.1))
    (λ t. rw t (order_read rows order.1))

pub exact_read : ExactTablesAreRead
exact_read t is order =
    let others : length t.state_names ≡ length (t.key_names ++ t.state_names) - length t.key_names =
    omega (arith, length-append t.key_names t.state_names) in record {
      keys = omega (arith, length-append t.key_names t.state_names);
      rows = rw others at (have_columns _ _ _ is.rows);
      order = order_read _ order;
    }
