-- A key has no more epochs in its part than in the whole trace, where no refresh cuts.
use Rattle.part_laws.proofs.Words.{◌≡◌, ℕ, zero, suc, ◌<◌, ◌≤◌, max, Bool, true, false, not, ◌&&◌, ◌||◌, ◌==◌, List, [], ◌∷◌, ◌++◌, length}
use Rattle.part_laws.proofs.Words.{map, filter, Option, Some, None, refl, sym, ap, ◌∙◌, subst, arith, length-append, nat_lt, nat_le}
use Rattle.part_laws.proofs.Words.{slice_get, reverse, All, All-head, All-tail, true≢false, false≢true, lt-ltb, ltb-true, FIELDS, Key}
use Rattle.part_laws.proofs.Words.{ArgRow, key_eq, others, distinct, has, by_test, key_eq-true, key_eq-refl, IsDistinct, distinct-distinct}
use Rattle.part_laws.proofs.Words.{has-distinct, has-others_other, TypedQuery, Taking, takings, stream, values_at, use_of, taken_by, uses}
use Rattle.part_laws.proofs.Words.{AreWhole, row_at, all_rows, tuple_of, tuples, stream_rows, some, joined-some, rows_used, not_number}
use Rattle.part_laws.proofs.Words.{Partition, part_at, KeepsKeys}
use mathlib.Core.List.{reverse_aux}
use Rattle.epoch_model.specs.Epochs.{Use, Geometry, is_refresh, refresh_between, is_rival, rivals, in_one_epoch, is_use_of, last_use}
use Rattle.epoch_model.specs.Epochs.{since_last_use, goes_on, goes_on_after, onto_last, epochs_back, epochs}
use Rattle.epoch_model.proofs.Cuts.{epochs-pieces, epochs_cut_the_rows_lem}
use Rattle.stage_plan.proofs.StreamRows.{Row}
use Rattle.part_laws.{specs.PartLaws.{PartsCutNoMore, ValidRowsAreTheParts}, proofs.Keeping.parts_have_rows}
use Rattle.part_laws.proofs.Tables.{one_epoch, valid_rows}

-- ---- distinct keys

shorter : (key : Key) (keys : List Key) → has key keys ≡ true → suc (length (others key keys)) ≤ length keys
shorter key [] e = absurd (false≢true e)
shorter key (first ∷ keys) e = by_test (key_eq first key) (λ t. rw t (let l = no_longer key keys in omega (arith, l)))
    (λ t. rw t (let l = shorter key keys (rw t at e) in omega (arith, l)))
  where
    no_longer : (key : Key) (keys : List Key) → length (others key keys) ≤ length keys
    no_longer key [] = omega arith
    no_longer key (first ∷ keys) = by_test (key_eq first key) (λ t. rw t (let l = no_longer key keys in omega (arith, l)))
        (λ t. rw t (let l = no_longer key keys in omega (arith, l)))

-- distinct keys that are all in a list are no more than it has
fit : (xs ys : List Key) → IsDistinct xs → ((k : Key) → has k xs ≡ true → has k ys ≡ true) → length xs ≤ length ys
fit [] ys d h = omega arith
fit (x ∷ xs) ys d h =
    let rest = fit xs _ d.1 within in
    let less = shorter x _ (h x (ap (λ b. b || has x xs) (key_eq-refl x))) in
    omega arith
  where
    within : (k : Key) → has k xs ≡ true → has k (others x ys) ≡ true
    within k e = by_test _ (λ t. absurd (true≢false (sym e ∙ (ap (λ z. has z xs) (sym (key_eq-true x k t)) ∙ d.0))))
        (λ t. has-others_other x k _ t ∙ h k (ap (λ b. b || has k xs) t ∙ e))

has_filtered : (test : Key → Bool) (k : Key) (keys : List Key) → has k (filter test keys) ≡ (test k && has k keys)
has_filtered test k [] = by_test (test k) (λ t. rw t refl) (λ t. rw t refl)
has_filtered test k (x ∷ keys) =
    let rest = has_filtered test k keys in
    by_test _
    (λ e. let same : test x ≡ test k = ap test (key_eq-true x k e) in
    by_test (test k)
    (λ t. let u : test x ≡ true = same ∙ t in rw (u, e, t) refl)
    (λ t. let u : test x ≡ false = same ∙ t in rw (u, t) (rest ∙ rw t refl)))
    (λ e. by_test (test x)
    (λ u. rw (u, e) rest)
    (λ u. rw (u, e) rest))

-- ---- uses with some of other keys left out

data Thinned (key : Key) : List Use → List Use → Type 0 where
  of_none : Thinned key [] []
  of_both : (u p : Use) (us ps : List Use) → u.key ≡ p.key → Thinned key us ps → Thinned key (u ∷ us) (p ∷ ps)
  of_first : (u : Use) (us ps : List Use) → is_use_of key u ≡ false → Thinned key us ps → Thinned key (u ∷ us) ps

same_test : (key : Key) (u p : Use) → u.key ≡ p.key → is_use_of key p ≡ is_use_of key u
same_test key u p e = ap (λ k. key_eq k key) (sym e)

-- the keys since the latest use of the key
since : (key : Key) (us ps : List Use) → Thinned key us ps → (k : Key) → has k (map (λ u. u.key) (since_last_use key ps)) ≡ true
    → has k (map (λ u. u.key) (since_last_use key us)) ≡ true
since key _ _ of_none k h = h
since key _ _ (of_both u p us ps e t) k h = by_test (is_use_of key u) (λ y. absurd (false≢true (rw (same_test key u p e ∙ y) at h)))
    (λ y. rw y (by_test _ (λ z. rw z refl) (λ z. let other : key_eq p.key k ≡ false = ap (λ x. key_eq x k) (sym e) ∙ z in
    let n : is_use_of key p ≡ false = same_test _ u p e ∙ y in
    rw z (since _ us ps t k (rw other at (rw n at h))))))
since key _ _ (of_first u us ps n t) k h = rw n (by_test (key_eq u.key k) (λ z. rw z refl) (λ z. rw z (since _ _ _ t k h)))

-- the latest use of the key is in both or in none
latest : (key : Key) (us ps : List Use) → Thinned key us ps → (one : Use) → last_use key us ≡ Some one → (other : Use)
    × (last_use key ps ≡ Some other)
latest key _ _ of_none one e = cc e
latest key _ _ (of_both u p us ps e t) one h = by_test _ (λ y. let yes : is_use_of key p ≡ true = same_test _ u p e ∙ y in (p, rw yes refl))
    (λ y. let n : is_use_of key p ≡ false = same_test _ u p e ∙ y in
    let more = latest _ _ _ t _ (rw y at h) in (more.0, rw n more.1))
latest key _ _ (of_first u us ps n t) one h = latest _ _ _ t _ (rw n at h)

never : (refresh first second : ℕ) → refresh ≡ 0 → refresh_between refresh first second ≡ false
never refresh first zero e = refl
never refresh first (suc n) e =
    ap (λ b. (nat_le first n && b) || refresh_between refresh first n) (ap (λ r. is_refresh r n) e)
    ∙ (by_test (nat_le first n) (λ t. rw t refl) (λ t. rw t refl) ∙ never _ first n e)

both_true : (a b : Bool) → (a && b) ≡ true → a ≡ true
both_true true b e = refl
both_true false b e = e

module _ (g : Geometry) (none : g.refresh ≡ 0) (key : Key) where
  fewer_rivals : (between others : List Use) → ((k : Key) → has k (map (λ u. u.key) others) ≡ true
      → has k (map (λ u. u.key) between) ≡ true) → length (rivals g key others) ≤ length (rivals g key between)
  fewer_rivals between others h =
      let xs : List Key = filter (is_rival g key) (map (λ u. u.key) others) in
      let ys : List Key = filter (is_rival g key) (map (λ u. u.key) between) in
      fit _ (distinct _) (distinct-distinct _)
      (λ k e. has-distinct k _ ∙ (has_filtered (is_rival g key) k (map (λ u. u.key) between)
      ∙ at k (is_rival g key k) (sym (has_filtered (is_rival g key) k (map (λ u. u.key) others)) ∙ (sym (has-distinct k _) ∙ e))))
    where
      at : (k : Key) (b : Bool) → (b && has k (map (λ u. u.key) others)) ≡ true → (b && has k (map (λ u. u.key) between)) ≡ true
      at k true e = h k e
      at k false e = e

  -- a use that goes on with an epoch goes on there too, with fewer uses between
  still_one : (one other : Use) (between others : List Use) (u p : Use) → u.key ≡ key → p.key ≡ key
      → ((k : Key) → has k (map (λ x. x.key) others) ≡ true → has k (map (λ x. x.key) between) ≡ true)
      → in_one_epoch g one between u ≡ true → in_one_epoch g other others p ≡ true
  still_one one other between others u p eu ep h e =
      let few : nat_lt (length (rivals g key between)) g.ways ≡ true =
      ap (λ k. nat_lt (length (rivals g k between)) g.ways) (sym eu)
      ∙ both_true _ _ e in
      let lt = ltb-true _ _ few in
      let le = fewer_rivals _ _ h in
      ap (λ k. nat_lt (length (rivals g k others)) g.ways && not (refresh_between g.refresh other.packet p.packet)) ep
      ∙ (ap (λ b. b && not (refresh_between g.refresh other.packet p.packet))
      (lt-ltb _ _ (omega arith))
      ∙ ap not (never _ _ p.packet none))

  still_on : (us ps : List Use) → Thinned key us ps → (u p : Use) → u.key ≡ key → p.key ≡ key → goes_on g us u ≡ true
      → goes_on g ps p ≡ true
  still_on us ps t u p eu ep e = go _ refl (ap (λ k. goes_on_after g (last_use k us) (since_last_use k us) u) (sym eu) ∙ e)
    where
      go : (o : Option Use) → last_use key us ≡ o → goes_on_after g o (since_last_use key us) u ≡ true → goes_on g ps p ≡ true
      go None is h = absurd (false≢true h)
      go (Some one) is h =
          let found = latest _ _ ps t one is in
          ap (λ k. goes_on_after g (last_use k ps) (since_last_use k ps) p) ep
          ∙ (ap (λ o. goes_on_after g o (since_last_use key ps) p) found.1
          ∙ still_one one found.0 (since_last_use key us) (since_last_use key ps) u p eu ep (since _ _ _ t) h)

  length-onto_last : (row : ArgRow) (pieces : List (List ArgRow)) → length (onto_last row pieces) ≡ max 1 (length pieces)
  length-onto_last row (piece ∷ next ∷ pieces) = let rest = length-onto_last row (next ∷ pieces) in omega arith
  length-onto_last row _ = refl

  no_more : (us ps : List Use) → Thinned key us ps → length (epochs_back g ps key) ≤ length (epochs_back g us key)
  no_more _ _ of_none = omega arith
  no_more _ _ (of_first u us ps n t) = rw n (no_more _ _ t)
  no_more _ _ (of_both u p us ps e t) =
      let rest = no_more _ _ t in
      by_test _
      (λ y. let yes : is_use_of key p ≡ true = same_test _ u p e ∙ y in
      let last = length-onto_last u.row (epochs_back g us key) in
      let other = length-onto_last p.row (epochs_back g ps key) in
      let more = length-append (epochs_back g us key) ((u.row ∷ []) ∷ []) in
      by_test (goes_on g us u)
      (λ on. let still = still_on _ _ t u p (key_eq-true _ _ y) (key_eq-true _ _ yes) on in
      rw (y, yes, on, still) (omega (arith, rest, last, other)))
      (λ cut. by_test (goes_on g ps p)
      (λ on. rw (y, yes, cut, on) (omega (arith, rest, other, more)))
      (λ not_on. let also = length-append (epochs_back g ps key) ((p.row ∷ []) ∷ []) in rw (y, yes, cut, not_on)
      (omega (arith, rest, more, also)))))
      (λ y. let n : is_use_of key p ≡ false = same_test key u p e ∙ y in rw (y, n) rest)

-- ---- the uses of a part

module _ (partition : Partition) (q : TypedQuery) (i : ℕ) (kept : KeepsKeys partition q i) (key : Key) (t : Taking)
    (found : slice_get (takings q.streams) i ≡ Some t) where
  abbrev row_of : List ℕ → Row
  row_of words = row_at (all_rows q words) t.input

  abbrev use_with : ℕ → List ℕ → Use
  use_with n row = use_of t (record { packet = n; row = row })

  -- a packet of another part gives no use of the key
  not_here : (words row : List ℕ) → length words ≡ FIELDS → (partition words == kept.part_of key) ≡ false → row_of words ≡ Some row
      → key_eq (values_at row t.keys) key ≡ false
  not_here words row size apart is = by_test _ (λ e. absurd (not_number (partition words) (kept.part_of _) apart
      (same ∙ ap kept.part_of (key_eq-true _ _ e)))) (λ e. e)
    where
      uses_are : uses q i (words ∷ []) ≡ use_with 1 row ∷ []
      uses_are = ap (taken_by q (words ∷ [])) found ∙ (ap (map (use_of t)) (stream_rows q _ (words ∷ []))
          ∙ ap (λ o. map (use_of t) (tuple_of 1 o ++ [])) is)

      same : partition words ≡ kept.part_of (values_at row t.keys)
      same = All-head (λ (u : Use). partition words ≡ kept.part_of u.key) (use_with 1 row) []
          (subst (All (λ (u : Use). partition words ≡ kept.part_of u.key)) uses_are (kept.goes words size))

  abbrev back : ℕ → List (List ℕ) → List Use → List Use
  back n packets us = reverse_aux (map (use_of t) (tuples row_of n packets)) us

  abbrev own : List (List ℕ) → List (List ℕ)
  own packets = part_at partition (kept.part_of key) packets

  -- so it is after any uses
  abbrev IsThin : List (List ℕ) → Type 0
  IsThin packets = (n m : ℕ) (us ps : List Use) → Thinned key us ps → Thinned key (back n packets us) (back m (own packets) ps)

  thin : (packets : List (List ℕ)) → AreWhole packets → (n m : ℕ) (us ps : List Use) → Thinned key us ps
      → Thinned key (back n packets us) (back m (own packets) ps)
  thin [] whole n m us ps h = h
  thin (words ∷ packets) whole n m us ps h =
      let more = thin packets (All-tail (λ ws. length ws ≡ FIELDS) words packets whole) in
      by_test (partition words == kept.part_of key)
      (λ e. rw e (here more (row_of words)))
      (λ e. rw e (there more e _ refl))
    where
      here : IsThin packets → (o : Row) → Thinned key (reverse_aux (map (use_of t) (tuple_of n o ++ tuples row_of (suc n) packets)) us)
          (reverse_aux (map (use_of t) (tuple_of m o ++ tuples row_of (suc m) (own packets))) ps)
      here more None = more (suc n) (suc m) us ps h
      here more (Some row) = more (suc n) (suc m) (use_with n row ∷ us) (use_with m row ∷ ps)
          (of_both (use_with n row) (use_with m row) us ps refl h)

      there : IsThin packets → (partition words == kept.part_of key) ≡ false → (o : Row) → row_of words ≡ o
          → Thinned key (reverse_aux (map (use_of t) (tuple_of n o ++ tuples row_of (suc n) packets)) us) (back m (own packets) ps)
      there more e None is = more (suc n) m us ps h
      there more e (Some row) is =
          more (suc n) m (use_with n row ∷ us) ps
          (of_first (use_with n row) us ps (not_here _ row (All-head (λ ws. length ws ≡ FIELDS) words packets whole) e is) h)

pub cut_no_more : PartsCutNoMore
unfolding epochs
cut_no_more partition q i kept packets key whole g none = go (slice_get (takings q.streams) i) refl
  where
    part : List (List ℕ)
    part = part_at partition (kept.part_of key) packets

    go : (o : Option Taking) → slice_get (takings q.streams) i ≡ o
        → length (epochs_back g (reverse (taken_by q part o)) key) ≤ length (epochs_back g (reverse (taken_by q packets o)) key)
    go None is = omega arith
    go (Some t) is =
        let f : List ℕ → Row = λ words. row_at (all_rows q words) t.input in
        subst (λ s. length (epochs_back g (reverse (map (use_of t) s)) key) ≤ length
        (epochs_back g (reverse (map (use_of t) (stream q t.input packets))) key))
        (sym (stream_rows q t.input _))
        (subst (λ s. length (epochs_back g (reverse (map (use_of t) (tuples f 1 part))) key) ≤ length
        (epochs_back g (reverse (map (use_of t) s)) key))
        (sym (stream_rows q _ _))
        (no_more g none key (reverse (map (use_of t) (tuples f 1 packets))) (reverse (map (use_of t) (tuples f 1 part)))
        (thin partition q i kept key t is packets whole 1 1 [] [] of_none)))

-- ---- valid rows

epochs_some : (g : Geometry) (us : List Use) (key : Key) → some (epochs g us key) ≡ some (rows_used key us)
epochs_some g us key = sym (joined-some _ (epochs-pieces g _ _)) ∙ ap some (epochs_cut_the_rows_lem g us key).0

some_long : (lists : List (List ArgRow)) → some lists ≡ true → 0 < length lists
some_long [] e = absurd (false≢true e)
some_long (rows ∷ lists) e = omega arith

one_some : (lists : List (List ArgRow)) → length lists ≡ 1 → some lists ≡ true
one_some [] e = absurd (omega arith)
one_some (rows ∷ lists) e = refl

pub valid_same : ValidRowsAreTheParts
valid_same partition q i kept packets key whole f g each none one =
    let part = uses q i (part_at partition (kept.part_of key) packets) in
    let le = cut_no_more partition q i kept packets key whole g none in
    let there : 0 < length (epochs g part key) = some_long (epochs g part key)
    (epochs_some g part key ∙ (ap some (sym (parts_have_rows partition q i kept packets key whole))
    ∙ (sym (epochs_some g (uses q i packets) key) ∙ one_some (epochs g (uses q i packets) key) one))) in
    let few : length (epochs g part key) ≡ 1 = omega (arith, le, there, one) in
    one_epoch f g (uses q i packets) key each one ∙ sym (valid_rows partition q i kept packets key whole f g each few)
