-- The columns that keys and zips pick, by their names and slots.
use Rattle.std.proofs.Common.{◌≡◌, ℕ, zero, suc, ◌<◌, List, [], ◌∷◌, ◌++◌, length, drop, slice_index, Some, refl, arith}
use Rattle.std.specs.Prelude.{slice_get}
use Rattle.query_lang.specs.{declared.typing.StreamColumn.StreamColumn, Streams.values_at, TypedStreams.{column_names, columns_at}}
use Rattle.query_laws.{specs.StreamRules.HasSlots, proofs.{Typed.stands_below, Views.AreBelow}}

found_column : (columns : List StreamColumn) (slot : ℕ) → slot < length columns
    → (c : StreamColumn) × (slice_get columns slot ≡ Some c) × (c.name ≡ slice_index (column_names columns) slot)
found_column [] slot lt = absurd (omega arith)
found_column (c ∷ columns) zero lt = (c, refl, refl)
found_column (c ∷ columns) (suc slot) lt = found_column columns _ (omega arith)

-- the names of the columns at slots are the names at these slots
pub picked_names : (columns : List StreamColumn) (slots : List ℕ) → AreBelow (length columns) slots
    → column_names (columns_at columns slots) ≡ values_at (column_names columns) slots
picked_names columns [] w = refl
picked_names columns (slot ∷ slots) w =
    let f = found_column _ _ w.0 in
    cc (f.1, f.2, picked_names columns slots w.1)

pub names_long : (columns : List StreamColumn) → length (column_names columns) ≡ length columns
names_long [] = refl
names_long (c ∷ columns) = cc (names_long columns)

pub names_of_both : (columns others : List StreamColumn) → column_names (columns ++ others) ≡ column_names columns ++ column_names others
names_of_both [] others = refl
names_of_both (c ∷ columns) others = cc (names_of_both columns others)

pub slots_below : (columns ids slots : List ℕ) → HasSlots columns ids slots → AreBelow (length columns) slots
slots_below columns [] [] h = tt
slots_below columns (id ∷ ids) (slot ∷ slots) h = (stands_below _ _ _ h.0, slots_below _ ids _ h.1)
slots_below columns _ _ h = absurd h

-- what comes after others
pub rest_after : (front back : List ℕ) (n : ℕ) → n ≡ length front → drop n (front ++ back) ≡ back
rest_after [] back n e = cc e
rest_after (x ∷ front) back zero e = absurd (omega arith)
rest_after (x ∷ front) back (suc n) e = rest_after front _ n (omega arith)
