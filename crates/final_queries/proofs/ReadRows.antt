-- The rows that are read, from a place on, one by one.
use Rattle.std.proofs.Common.{length, sym, ◌≡◌, ◌<◌, ℕ, ◌+◌, true, false, List, ◌∷◌, ◌++◌, ◌∙◌, Some, drop, ap, slice_get, refl}
use Rattle.std.{proofs.Common.{append_assoc, arith}, specs.List.All}
use Rattle.epoch_model.specs.declared.tables.Row.{Row}
use Rattle.table_rows.proofs.LentFacts.{holds_at, rows_from}
use Rattle.final_queries.specs.{Finals.{is_read, columns_of}, Joining.reads}

-- a row that is read comes first
pub read_first : (rows : List Row) (at : ℕ) (row : Row) → slice_get rows at ≡ Some row → is_read row.mark ≡ true
    → reads (drop at rows) ≡ row ∷ reads (drop (at + 1) rows)
read_first rows at row here read = ap reads (rows_from rows at row here) ∙ rw read refl

-- a row that isn't read is left out
pub left_out : (rows : List Row) (at : ℕ) (row : Row) → slice_get rows at ≡ Some row → is_read row.mark ≡ false
    → reads (drop at rows) ≡ reads (drop (at + 1) rows)
left_out rows at row here unread = ap reads (rows_from rows at row here) ∙ rw unread refl

-- the columns of a row at a place are as many as those of each row
pub width_at : (rows : List Row) (at width : ℕ) (row : Row) (columns : List ℕ) → All (λ row. length (columns_of row) ≡ width) rows
    → slice_get rows at ≡ Some row → columns ≡ columns_of row → width ≡ length columns
width_at rows at width row columns all here joined =
    sym (ap length joined ∙ holds_at (λ row. length (columns_of row) ≡ width) rows at row all here)

-- so a column within the width is one of that row's
pub column_within : (rows : List Row) (at width column : ℕ) (row : Row) (columns : List ℕ)
    → All (λ row. length (columns_of row) ≡ width) rows → slice_get rows at ≡ Some row → columns ≡ columns_of row → column < width
    → column < length columns
column_within rows at width column row columns all here joined within = omega (arith, width_at rows at width row columns all here joined)

-- Of what is made of rows, row by row, more is made of the row at a place.
pub made_on : {X : Type 0} (of : ℕ → List Row → List X) (whole made after more : List X) (rows : List Row) (at : ℕ) (row : Row)
    → slice_get rows at ≡ Some row → after ≡ made ++ more → ((rest : List Row) → of at (row ∷ rest) ≡ more ++ of (at + 1) rest)
    → made ++ of at (drop at rows) ≡ whole → after ++ of (at + 1) (drop (at + 1) rows) ≡ whole
made_on of whole made after more rows at row here is first so_far =
    rw (is, append_assoc, ← first (drop (at + 1) rows), ← rows_from rows at row here) so_far

-- Nothing is made of the row.
pub passed_on : {X : Type 0} (of : ℕ → List Row → List X) (whole made : List X) (rows : List Row) (at : ℕ) (row : Row)
    → slice_get rows at ≡ Some row → ((rest : List Row) → of at (row ∷ rest) ≡ of (at + 1) rest)
    → made ++ of at (drop at rows) ≡ whole → made ++ of (at + 1) (drop (at + 1) rows) ≡ whole
passed_on of whole made rows at row here skip so_far = rw (← skip (drop (at + 1) rows), ← rows_from rows at row here) so_far
