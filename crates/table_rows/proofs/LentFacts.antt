-- The row at a place, and the rows after it.
use Rattle.std.proofs.{Common.{◌≡◌, ℕ, ◌+◌, ◌∙◌, List, ◌∷◌, Some, drop, ap, subst, slice_get}, lemmas.List.drop_more}
use Rattle.std.{proofs.lemmas.Option.{slice_get_within, get_or_from_slice_get}, specs.List.All}
use Rattle.epoch_model.specs.declared.tables.Row.{Row}

-- the rows from a place on
pub rows_from : (rows : List Row) (at : ℕ) (row : Row) → slice_get rows at ≡ Some row → drop at rows ≡ row ∷ drop (at + 1) rows
rows_from rows at row here =
    drop_more rows at row (slice_get_within rows at row here) ∙ ap (λ r. r ∷ drop (at + 1) rows)
    (get_or_from_slice_get rows at row row here)

-- what holds of all rows holds of the one at a place
pub holds_at : (P : Row → Type 0) (rows : List Row) (at : ℕ) (row : Row) → All P rows → slice_get rows at ≡ Some row → P row
holds_at P rows at row all here = subst P (get_or_from_slice_get rows at row row here) (all at row (slice_get_within rows at row here))
