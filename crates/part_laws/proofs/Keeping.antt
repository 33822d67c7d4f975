-- A key's rows and its place in the table, where its packets all go to one part.
use Rattle.part_laws.proofs.Words.{◌≡◌, ◌≢◌, ℕ, zero, suc, ◌<◌, Bool, true, false, ◌||◌, ◌==◌, List, [], ◌∷◌, ◌++◌, length, map, flat_map}
use Rattle.part_laws.proofs.Words.{refl, sym, ap, ◌∙◌, arith, Contains, slice_index_or, true≢false, false≢true, All-head, All-tail, FIELDS}
use Rattle.part_laws.proofs.Words.{Key, ArgRow, key_eq, has, keys_used, by_test, key_eq-true, key_eq-refl, has-ascending, some, TypedQuery}
use Rattle.part_laws.proofs.Words.{uses, rows_used, same_number, not_number, AreWhole, Partition, part_at, KeepsKeys}
use Rattle.part_laws.proofs.Packetwise.{rows_of_one, rows_packetwise}
use Rattle.part_laws.specs.PartLaws.{PartsHaveTheRows, OtherPartsHaveNone, KeysAreOfTheirParts, KeysAreOfNoOtherPart}
use Rattle.std.proofs.Common.{All}
use Rattle.epoch_model.specs.Epochs.{Use}

module _ (partition : Partition) (q : TypedQuery) (i : ℕ) (kept : KeepsKeys partition q i) (key : Key) where
  abbrev rows : List ℕ → List ArgRow
  rows = rows_of_one q i key

  -- a packet that goes elsewhere gives the key no row
  none_elsewhere : (words : List ℕ) → length words ≡ FIELDS → partition words ≢ kept.part_of key → rows words ≡ []
  none_elsewhere words size other = none _ (kept.goes words size)
    where
      none : (us : List Use) → All (λ u. partition words ≡ kept.part_of u.key) us → rows_used key us ≡ []
      none [] h = refl
      none (u ∷ us) h = by_test _ (λ e. absurd (other (All-head (λ (v : Use). partition words ≡ kept.part_of v.key) u us h
          ∙ ap kept.part_of (key_eq-true u.key key e)))) (λ e. rw e (none us
          (All-tail (λ (v : Use). partition words ≡ kept.part_of v.key) u us h)))

  own_part : (n : ℕ) → n ≡ kept.part_of key → (packets : List (List ℕ)) → AreWhole packets
      → flat_map rows packets ≡ flat_map rows (part_at partition n packets)
  own_part n is [] whole = refl
  own_part n is (words ∷ packets) whole =
      let rest = own_part n is packets (All-tail (λ ws. length ws ≡ FIELDS) words packets whole) in
      by_test (partition words == n)
      (λ e. rw e (ap (λ rs. rows words ++ rs) rest))
      (λ e. rw e (ap (λ rs. rs ++ flat_map rows packets)
      (none_elsewhere words (All-head (λ ws. length ws ≡ FIELDS) words packets whole)
      (λ same. not_number (partition words) n e (same ∙ sym is))) ∙ rest))

  other_part : (n : ℕ) → n ≢ kept.part_of key → (packets : List (List ℕ)) → AreWhole packets
      → flat_map rows (part_at partition n packets) ≡ []
  other_part n other [] whole = refl
  other_part n other (words ∷ packets) whole =
      let rest = other_part n other packets (All-tail (λ ws. length ws ≡ FIELDS) words packets whole) in
      by_test (partition words == n)
      (λ e. rw e (ap (λ rs. rs ++ flat_map rows (part_at partition n packets))
      (none_elsewhere words (All-head (λ ws. length ws ≡ FIELDS) words packets whole)
      (λ same. other (sym (same_number (partition words) n e) ∙ same))) ∙ rest))
      (λ e. rw e rest)

pub parts_have_rows : PartsHaveTheRows
parts_have_rows partition q i kept packets key whole =
    rows_packetwise q i _ _
    ∙ (own_part _ q i kept key (kept.part_of _) refl packets whole
    ∙ sym (rows_packetwise q i _ _))

pub others_have_none : OtherPartsHaveNone
others_have_none partition q i kept packets key whole n other = rows_packetwise q i _ _ ∙ other_part _ q i kept key n other packets whole

-- ---- which keys a table has

pub has_contained : (key : Key) (keys : List Key) → has key keys ≡ true → Contains keys key
has_contained key [] e = absurd (false≢true e)
has_contained key (first ∷ keys) e = by_test _ (λ t. (0, omega arith, key_eq-true _ _ t))
    (λ t. let c = has_contained _ keys (rw t at e) in (suc c.0, omega (arith, c.1), c.2))

or_true : (b : Bool) → (b || true) ≡ true
or_true true = refl
or_true false = refl

contained_has : (key : Key) (keys : List Key) (k : ℕ) → k < length keys → slice_index_or keys k key ≡ key → has key keys ≡ true
contained_has key [] k lt e = absurd (omega (arith, lt))
contained_has key (first ∷ keys) zero lt e = ap (λ x. key_eq x key || has key keys) e ∙ ap (λ b. b || has key keys) (key_eq-refl key)
contained_has key (first ∷ keys) (suc k) lt e = ap (λ b. key_eq first key || b) (contained_has key keys k (omega arith) e) ∙ or_true _

used_some : (key : Key) (us : List Use) → has key (map (λ u. u.key) us) ≡ some (rows_used key us)
used_some key [] = refl
used_some key (u ∷ us) = by_test (key_eq u.key key) (λ e. rw e refl) (λ e. rw e (used_some _ us))

-- a table has a key exactly where the key has a row
pub key_has_rows : (key : Key) (us : List Use) → has key (keys_used us) ≡ some (rows_used key us)
key_has_rows key us = has-ascending _ _ ∙ used_some _ _

same_place : (key : Key) (us others : List Use) → rows_used key us ≡ rows_used key others → Contains (keys_used us) key
    → Contains (keys_used others) key
same_place key us others e c = has_contained _ _
    (key_has_rows key _ ∙ (ap some (sym e) ∙ (sym (key_has_rows key _) ∙ contained_has _ _ _ c.1 c.2)))

pub keys_of_parts : KeysAreOfTheirParts
keys_of_parts partition q i kept packets key whole =
    let e = parts_have_rows partition q i kept packets key whole in
    let part = uses q i (part_at partition (kept.part_of _) packets) in
    (same_place _ (uses q i packets) _ e, same_place _ part _ (sym e))

pub keys_of_no_other : KeysAreOfNoOtherPart
keys_of_no_other partition q i kept packets key whole n c = by_test _ (λ e. same_number n _ e)
    (λ e. let us = uses q i (part_at partition n packets) in
    let none = others_have_none partition q i kept packets key whole n (not_number n (kept.part_of _) e) in
    absurd (true≢false (sym (contained_has _ _ _ c.1 c.2) ∙ (key_has_rows key _ ∙ ap some none))))
