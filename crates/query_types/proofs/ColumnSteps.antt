-- The columns of a `map`, and the keys of a groupby, one after another.
use Rattle.std.proofs.Common.{◌≡◌, ℕ, ◌+◌, ◌<◌, Bool, true, false, List, [], ◌∷◌, ◌++◌, length, get_or, drop, Ok, Err, refl, sym, ap, ◌∙◌}
use Rattle.std.proofs.{Common.{◌||◌, nat_lt}, lemmas.List.drop_more}
use Rattle.query_lang.specs.declared.fault.{FaultKind.TheVariants.{NameTaken, OverLimit}, Limit.TheVariants.Keys, TheConstants.MAX_KEYS}
use Rattle.query_lang.specs.declared.{fold.TypedExpr.TypedExpr, query.{Column.Column, Name.Name}, typing.NewColumns.NewColumns}
use Rattle.query_lang.specs.{declared.typing.Picked.Picked, TypedExprs.{slot_of, word_of}, TypedStreams.{new_columns, keys_from}}
use Rattle.query_lang.specs.Checks.{Checked, and_then, must, must_not, is_among}
use Rattle.query_types.specs.MadeStreams.{column_added, key_added}

module _ (columns hidden : List ℕ) where
  pub column_turn : (new : List Column) (i : ℕ) {x : Column} (made : NewColumns) → i < length new → x ≡ get_or new i x →
      new_columns columns hidden made (drop i new)
      ≡ and_then (column_added columns hidden made x) (λ more. new_columns columns hidden more (drop (i + 1) new))
  column_turn new i {x} made h is =
      ap (λ l. new_columns columns hidden made l) (drop_more new i x h)
      ∙ sym (ap (λ y. new_columns columns hidden made (y ∷ drop (i + 1) new)) is)
      ∙ split (is_among x.name.id columns || (is_among x.name.id hidden || is_among x.name.id made.names)) (word_of columns hidden x.value)
    where
      split : (taken : Bool) (r : Checked TypedExpr) → must_not taken NameTaken x.name.span (and_then r (λ value.
          new_columns columns hidden (record { names = made.names ++ x.name.id ∷ []; values = made.values ++ value ∷ [] })
          (drop (i + 1) new)))
          ≡ and_then (must_not taken NameTaken x.name.span (and_then r (λ value.
          Ok (record { names = made.names ++ x.name.id ∷ []; values = made.values ++ value ∷ [] }))))
          (λ more. new_columns columns hidden more (drop (i + 1) new))
      split true r = refl
      split false (Ok value) = refl
      split false (Err fault) = refl

  pub key_turn : (keys : List Name) (i : ℕ) (d : Name) (found : Picked) → i < length keys →
      keys_from columns hidden found (drop i keys)
      ≡ and_then (slot_of columns hidden (get_or keys i d)) (λ slot.
      and_then (key_added found (get_or keys i d) slot) (λ more. keys_from columns hidden more (drop (i + 1) keys)))
  key_turn keys i d found h =
      ap (keys_from columns hidden found) (drop_more keys i d h)
      ∙ split (get_or keys i d) (slot_of columns hidden (get_or keys i d)) (is_among (get_or keys i d).id found.names)
      (nat_lt (length found.names) MAX_KEYS)
    where
      split : (key : Name) (r : Checked ℕ) (taken room : Bool)
          → and_then r (λ slot. must_not taken NameTaken key.span (must room (OverLimit Keys) key.span
          (keys_from columns hidden (record { names = found.names ++ key.id ∷ []; slots = found.slots ++ slot ∷ [] }) (drop (i + 1) keys))))
          ≡ and_then r (λ slot. and_then (must_not taken NameTaken key.span (must room (OverLimit Keys) key.span
          (Ok (record { names = found.names ++ key.id ∷ []; slots = found.slots ++ slot ∷ [] }))))
          (λ more. keys_from columns hidden more (drop (i + 1) keys)))
      split key (Err fault) taken room = refl
      split key (Ok slot) true room = refl
      split key (Ok slot) false true = refl
      split key (Ok slot) false false = refl
