-- What operators make of rows that give a packet's word of one field.
use Rattle.std.proofs.Common.{◌≡◌, ℕ, ◌<◌, Bool, true, false, cond, List, [], ◌∷◌, ◌++◌, length, slice_index, Option, Some, None, refl, sym}
use Rattle.std.proofs.{Common.{◌∙◌}, lemmas.List.length-map}
use Rattle.marple_base.specs.declared.field.Field.{Field}
use Rattle.query_lang.specs.{declared.{fold.{TypedExpr.TypedExpr, TypedFold.TypedFold}, typed.TypedStream.TypedStream}, Streams.values_at}
use Rattle.stage_plan.proofs.StreamRows.{Row, filter_row, map_row, zip_row, group_row, row_made, rows_from}
use Rattle.net_laws.{specs.Fields.{is_named, names_field}, proofs.Tells.{Tells, both_tell, others_tell, tells_at, picked_tell}}
use Rattle.query_laws.proofs.Views.{AreBelow}

-- one operator more makes one row more
pub rows_last : (folds : List TypedFold) (rows : List Row) (streams : List TypedStream) (one : TypedStream)
    → rows_from folds rows (streams ++ one ∷ []) ≡ rows_from folds rows streams ++ row_made folds (rows_from folds rows streams) one.op ∷ []
rows_last folds rows [] one = refl
rows_last folds rows (s ∷ streams) one = rows_last _ (rows ++ row_made _ _ s.op ∷ []) streams _

-- a row, where there is one, gives the word
abbrev pub RowTells : Field → List (List ℕ) → ℕ → List ℕ → Row → Type 0
RowTells field names value columns None = Unit {0}
RowTells field names value columns (Some row) = Tells field names value columns row

-- and so does the word in one slot
abbrev pub SlotTells : ℕ → ℕ → Row → Type 0
SlotTells value slot None = Unit {0}
SlotTells value slot (Some row) = slice_index row slot ≡ value

module _ (field : Field) (names : List (List ℕ)) (value : ℕ) where
  pub filter_tells : (condition : TypedExpr) (columns : List ℕ) (o : Row) → RowTells field names value columns o
      → RowTells field names value columns (filter_row condition o)
  filter_tells condition columns None h = tt
  filter_tells condition columns (Some row) h = go _
    where
      go : (b : Bool) → RowTells field names value columns (cond b (Some row) None)
      go true = h
      go false = tt

  pub map_tells : (values : List TypedExpr) (columns more : List ℕ) (o : Row) → names_field field names more ≡ false
      → length more ≡ length values → RowTells field names value columns o → RowTells field names value (columns ++ more) (map_row values o)
  map_tells values columns more None none size h = tt
  map_tells values columns more (Some row) none size h =
      both_tell _ _ _ _ _ _ _ h
      (others_tell _ _ _ _ _ none
      (size ∙ sym (length-map _ _)))

  pub zip_tells : (slots columns others : List ℕ) (l r : Row) → AreBelow (length others) slots → RowTells field names value columns l
      → RowTells field names value others r → RowTells field names value (columns ++ values_at others slots) (zip_row slots l r)
  zip_tells slots columns others (Some row) (Some other) below h k =
      both_tell _ _ _ _ _ _ _ h
      (picked_tell _ _ _ _ _ _ k below)
  zip_tells slots columns others _ _ below h k = tt

  pub group_tells : (f : Option TypedFold) (keys args columns : List ℕ) (o : Row) → AreBelow (length columns) keys
      → RowTells field names value columns o → RowTells field names value (values_at columns keys) (group_row f keys args o)
  group_tells (Some f) keys args columns (Some row) below h = go _
    where
      go : (b : Bool) → RowTells field names value (values_at columns keys) (cond b (Some (values_at row keys)) None)
      go true = picked_tell _ _ _ _ _ _ h below
      go false = tt
  group_tells _ keys args columns _ below h = tt

  pub slot_tells : (columns : List ℕ) (o : Row) (slot : ℕ) → RowTells field names value columns o → slot < length columns
      → is_named field names (slice_index columns slot) ≡ true → SlotTells value slot o
  slot_tells columns None slot h lt e = tt
  slot_tells columns (Some row) slot h lt e = tells_at _ _ _ _ _ _ h lt e
