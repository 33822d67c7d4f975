-- Two tables whose rows are in ascending order of their keys, walked side by side.
use Rattle.std.specs.{Prelude.{◌≡◌, true, false, List, [], ◌∷◌, ◌++◌, filter, if◌then◌else◌}, Ordering.is_lt}
use Rattle.epoch_model.specs.{Keys.{Key, key_cmp, key_eq}, declared.tables.Row.Row}
use Rattle.final_queries.specs.Finals.{is_read, plain_row}

-- the rows that finals read
abbrev pub reads : List Row → List Row
reads rows = filter (λ row. is_read row.mark) rows

-- the rows that are read have smaller keys
abbrev pub AreSmaller : Key → List Row → Type 0
AreSmaller key [] = Unit {0}
AreSmaller key (row ∷ rows) = (is_read row.mark ≡ true → is_lt (key_cmp row.key key) ≡ true) × AreSmaller key rows

-- the first row, where there is one, is read, and its key isn't smaller
abbrev pub StartsAtLeast : Key → List Row → Type 0
StartsAtLeast key [] = Unit {0}
StartsAtLeast key (row ∷ rows) = (is_read row.mark ≡ true) × (is_lt (key_cmp row.key key) ≡ false)

-- the left row joined with the first of these rows, where that has its key
abbrev pub joined_first : Row → List Row → List Row
joined_first left [] = []
joined_first left (other ∷ rest) = if key_eq other.key left.key then (plain_row left.key (left.values ++ other.values) ∷ []) else []
