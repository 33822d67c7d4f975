-- Which columns a `zip` and a `groupby` have: the rules and the checks agree.
use Rattle.std.proofs.Common.{◌≡◌, ℕ, zero, suc, ◌+◌, ◌<◌, Bool, true, false, cond, List, [], ◌∷◌, length, Some, refl, sym, ap, subst, ◌∙◌}
use Rattle.std.proofs.Common.{arith}
use Rattle.std.specs.{Prelude.slice_get, List.cons_option}
use Rattle.query_laws.proofs.Terms.{StreamColumn, is_among, column_names, others_from, columns_at, StandsAt}
use Rattle.query_laws.proofs.{FoldNames.{new_among, among_new}, Steps.by_test, Views.{AreBelow, others_below}}
use Rattle.query_laws.specs.StreamRules.{HasSlots, AreAt, AreOthers, of_none, of_named, of_other}

-- ---- the columns at some slots

pub at_slots : (columns : List StreamColumn) (slots : List ℕ) (found : List StreamColumn) → AreAt columns slots found
    → found ≡ columns_at columns slots
at_slots _ [] [] h = refl
at_slots columns (_ ∷ slots) (c ∷ found) h = ap (λ z. c ∷ z) (at_slots columns slots found h.1)
    ∙ sym (ap (λ o. cons_option o (columns_at columns slots)) h.0)
at_slots _ _ _ h = absurd h

found_column : (columns : List StreamColumn) (slot : ℕ) → slot < length columns → (c : StreamColumn) × (slice_get columns slot ≡ Some c)
found_column [] _ lt = absurd (omega (arith, lt))
found_column (c ∷ _) zero _ = (c, refl)
found_column (c ∷ columns) (suc slot) lt = found_column columns slot (omega (arith, lt))

are_there : (columns : List StreamColumn) (slots : List ℕ) → AreBelow (length columns) slots
    → AreAt columns slots (columns_at columns slots)
are_there _ [] h = tt
are_there columns (slot ∷ slots) h =
    let c = found_column columns slot h.0 in
    subst (λ z. AreAt columns (slot ∷ slots) z) (sym (ap (λ o. cons_option o (columns_at columns slots)) c.1))
    (c.1, are_there columns slots h.1)

stands_within : (columns : List StreamColumn) (slot id : ℕ) → StandsAt (column_names columns) slot id → slot < length columns
stands_within [] _ _ h = absurd h
stands_within (c ∷ _) zero _ h = omega arith
stands_within (c ∷ columns) (suc slot) id h = omega (arith, stands_within columns slot id h.1)

pub slots_within : (columns : List StreamColumn) (ids slots : List ℕ) → HasSlots (column_names columns) ids slots
    → AreBelow (length columns) slots
slots_within _ [] [] h = tt
slots_within columns (id ∷ ids) (slot ∷ slots) h = (stands_within columns slot id h.0, slots_within columns ids slots h.1)
slots_within _ _ _ h = absurd h

-- the columns of a groupby, from its keys' slots
pub keys_there : (columns : List StreamColumn) (ids slots : List ℕ) → HasSlots (column_names columns) ids slots
    → AreAt columns slots (columns_at columns slots)
keys_there _ _ _ h = are_there _ _ (slots_within _ _ _ h)

-- ---- the columns with other names

pub others_are : {names : List ℕ} {slot : ℕ} {columns : List StreamColumn} {slots : List ℕ} → AreOthers names slot columns slots
    → slots ≡ others_from slot names columns
others_are (of_none _) = refl
others_are {names} (of_named {slot} {column} {rest} {slots} h more) = go (is_among column.name names) refl (others_are more)
  where
    go : (b : Bool) → is_among column.name names ≡ b → slots ≡ others_from (slot + 1) names rest
        → slots ≡ cond b (others_from (slot + 1) names rest) (slot ∷ others_from (slot + 1) names rest)
    go true _ same = same
    go false is _ = absurd (h (among_new _ _ is))
others_are {names} (of_other {slot} {rest} h more) = ap (λ z. slot ∷ z) (others_are more)
    ∙ sym (ap (λ b. cond b (others_from (slot + 1) names rest) (slot ∷ others_from (slot + 1) names rest)) (new_among _ _ h))

others_found : (names : List ℕ) (slot : ℕ) (columns : List StreamColumn) → AreOthers names slot columns (others_from slot names columns)
others_found _ _ [] = of_none _
others_found names slot (column ∷ rest) =
    let h = others_found names (slot + 1) rest in
    by_test (is_among column.name names)
    (λ is. rw is (of_named (λ new. let both : true ≡ false = sym is ∙ new_among column.name names new in cc both) h))
    (λ is. rw is (of_other (among_new column.name names is) h))

-- the columns that a `zip` takes from its second input
pub record Taken (names : List ℕ) (columns : List StreamColumn) : Type 0 where
  pub new : AreOthers names 0 columns (others_from 0 names columns)
  pub there : AreAt columns (others_from 0 names columns) (columns_at columns (others_from 0 names columns))

pub others_taken : {names : List ℕ} {columns : List StreamColumn} → Taken names columns
others_taken {names} {columns} = record {
  new = others_found names 0 columns;
  there = are_there columns (others_from 0 names columns) (others_below names columns);
}
