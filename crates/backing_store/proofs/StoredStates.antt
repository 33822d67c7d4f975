-- One more epoch of a key in a store: what it counts, and what its states are.
use Rattle.std.proofs.Common.{◌≡◌, ℕ, zero, suc, ◌+◌, ◌<◌, ◌==◌, true, false, List, [], ◌∷◌, ◌++◌, Some, length, map, fold, refl, sym, ap}
use Rattle.std.proofs.{Common.{◌∙◌, subst, arith, length-append}, lemmas.List.{map-append, Elements.filter-append, Sums.fold-append}}
use Rattle.std.{proofs.lemmas.{Grind.flat_map-append, Bool.{true≢false, Decides.nat_tests}}, specs.List.{filter, flat_map}}
use Rattle.std.specs.Prelude.{slice_get, option_map, if◌then◌else◌}
use Rattle.epoch_model.specs.{Keys.{Key, ArgRow, key_eq}, Machine.{Epoch, is_of, lists_of}, Tables.{Folding, folded, epochs_shown}}
use Rattle.epoch_model.proofs.KeyLists.{by_test, key_eq-true}
use Rattle.backing_store.specs.Store.{Store, StoredKey, StoredRow, IsStore, AreKeysOf, IsLastIn, epochs_of, number_of, one_more, with_epoch}
use Rattle.backing_store.specs.Store.{makes_row, row_keys, states_at, states_of}
use Rattle.backing_store.specs.{StoreLaws.{EpochsAreCounted, RowsAreAdded, LastRowsAreWritten, with_last}, Merged.stored}
use Rattle.backing_store.specs.HeldRows.{MergedEpochsAreHeld}

-- the rows of one more epoch of a key

lists_more_same : (key : Key) (rows : List ArgRow) (epochs : List Epoch) → key_eq key key ≡ true
    → lists_of key (epochs ++ record { key = key; rows = rows } ∷ []) ≡ lists_of key epochs ++ rows ∷ []
lists_more_same key rows epochs same =
    let e : Epoch = record { key = key; rows = rows } in
    let one : filter (is_of key) (e ∷ []) ≡ e ∷ [] = rw same refl in
    ap (map (λ x. x.rows)) (filter-append (is_of key) epochs (e ∷ []) ∙ ap (λ es. filter (is_of key) epochs ++ es) one)
    ∙ map-append (λ (x : Epoch). x.rows) (filter (is_of key) epochs) (e ∷ [])

lists_more_other : (key other : Key) (rows : List ArgRow) (epochs : List Epoch) → key_eq key other ≡ false
    → lists_of other (epochs ++ record { key = key; rows = rows } ∷ []) ≡ lists_of other epochs
lists_more_other key other rows epochs apart =
    let e : Epoch = record { key = key; rows = rows } in
    let none : filter (is_of other) (e ∷ []) ≡ [] = rw apart refl in
    ap (map (λ x. x.rows)) (filter-append (is_of other) epochs (e ∷ [])
    ∙ (ap (λ es. filter (is_of other) epochs ++ es) none ∙ append-nil (filter (is_of other) epochs)))
  where
    append-nil : (xs : List Epoch) → xs ++ [] ≡ xs
    append-nil [] = refl
    append-nil (x ∷ xs) = ap (λ ys. x ∷ ys) (append-nil xs)

-- a key with no epoch is a new one

new_key : (words : ℕ) (keys : List StoredKey) (key : Key) → AreKeysOf words keys → epochs_of keys key ≡ 0 → number_of keys key ≡ length keys
new_key words [] key k e = refl
new_key words (s ∷ keys) key k e = by_test (key_eq key s.key)
    (λ t. let z : s.epochs ≡ 0 = rw t at e in let p = k.0.positive in absurd (omega arith))
    (λ t. let z : epochs_of keys key ≡ 0 = rw t at e in let h = new_key words keys key k.1 z in rw t (omega arith))

known_key : (words : ℕ) (keys : List StoredKey) (key : Key) → 0 < epochs_of keys key → number_of keys key < length keys
known_key words [] key e = absurd (omega arith)
known_key words (s ∷ keys) key e = by_test (key_eq key s.key)
    (λ t. rw t (omega arith))
    (λ t. let z : 0 < epochs_of keys key = rw t at e in let h = known_key words keys key z in rw t (omega arith))

is_new : (store : Store) (key : Key) → IsStore store → epochs_of store.keys key ≡ 0 → (number_of store.keys key == length store.keys) ≡ true
is_new store key s e = let n = new_key store.key_words store.keys key s.keys e in grind (arith, nat_tests)

is_known : (store : Store) (key : Key) → 0 < epochs_of store.keys key → (number_of store.keys key == length store.keys) ≡ false
is_known store key e = let n = known_key store.key_words store.keys key e in grind (arith, nat_tests)

-- the last row of a key has its last state

no_states : (rows : List StoredRow) (n : ℕ) → ((i : ℕ) → slice_get (row_keys rows) i ≡ Some n → ⊥) → states_at rows n ≡ []
no_states [] n h = refl
no_states (r ∷ rows) n h = by_test (r.key == n)
    (λ t. let e : r.key ≡ n = grind (arith, nat_tests) in absurd (h 0 (ap Some e)))
    (λ t. rw t (no_states rows n (λ i. h (suc i))))

last_state : (rows : List StoredRow) (n place : ℕ) (words : List ℕ) → IsLastIn (row_keys rows) n place
    → option_map (λ row. row.words) (slice_get rows place) ≡ Some words
    → (before : List (List ℕ)) × (states_at rows n ≡ before ++ words ∷ [])
last_state [] n place words l e = cc
last_state (r ∷ rows) n zero words l e =
    let same : r.key ≡ n = got r.key n l.here in
    let test : (r.key == n) ≡ true = grind (arith, nat_tests) in
    let none = no_states rows n (λ i h. l.last (suc i) (omega arith) h) in
    ([], rw (test, none) (ap (λ w. w ∷ []) (got_words r.words words e)))
  where
    got : (x y : ℕ) → Some x ≡ Some y → x ≡ y
    got x y e = cc

    got_words : (x y : List ℕ) → Some x ≡ Some y → x ≡ y
    got_words x y e = cc
last_state (r ∷ rows) n (suc place) words l e =
    let rest = last_state rows n place words (record { here = l.here; last = λ later h. l.last (suc later) (omega arith) }) e in
    by_test (r.key == n)
    (λ t. (r.words ∷ rest.0, rw (t, rest.1) refl))
    (λ t. (rest.0, rw (t, rest.1) refl))

last_written : (before : List (List ℕ)) (words state : List ℕ) → with_last (before ++ words ∷ []) state ≡ before ++ state ∷ []
last_written [] words state = refl
last_written (x ∷ []) words state = refl
last_written (x ∷ y ∷ before) words state = ap (λ ws. x ∷ ws) (last_written (y ∷ before) words state)

ends_alike : (xs ys : List (List ℕ)) (x y : List ℕ) → xs ++ x ∷ [] ≡ ys ++ y ∷ [] → (xs ≡ ys) × (x ≡ y)
ends_alike [] [] x y e = (refl, cc)
ends_alike [] (b ∷ []) x y e = absurd (cc)
ends_alike [] (b ∷ c ∷ ys) x y e = absurd (cc)
ends_alike (a ∷ []) [] x y e = absurd (cc)
ends_alike (a ∷ c ∷ xs) [] x y e = absurd (cc)
ends_alike (a ∷ xs) (b ∷ ys) x y e =
    let head : a ≡ b = cc in
    let tail : xs ++ x ∷ [] ≡ ys ++ y ∷ [] = cc in
    let rest = ends_alike xs ys x y tail in
    (rw (head, rest.0) refl, rest.1)

-- the states of a key after a merge

each_more : (f : Folding) (lists : List (List ArgRow)) (rows : List ArgRow) → f.row_per_epoch ≡ true
    → stored f (lists ++ rows ∷ []) ≡ stored f lists ++ folded f rows ∷ []
each_more f lists rows each = rw each (map-append (folded f) lists (rows ∷ []))

one_first : (f : Folding) (rows : List ArgRow) → f.row_per_epoch ≡ false → stored f (rows ∷ []) ≡ folded f rows ∷ []
one_first f rows each = rw each (ap (λ rs. folded f rs ∷ []) (append-nil rows))
  where
    append-nil : (xs : List ArgRow) → xs ++ [] ≡ xs
    append-nil [] = refl
    append-nil (x ∷ xs) = ap (λ ys. x ∷ ys) (append-nil xs)

one_more_rows : (f : Folding) (first : List ArgRow) (lists : List (List ArgRow)) (rows : List ArgRow) → f.row_per_epoch ≡ false
    → stored f ((first ∷ lists) ++ rows ∷ []) ≡ fold f.step (folded f (flat_map (λ rs. rs) (first ∷ lists))) rows ∷ []
one_more_rows f first lists rows each =
    let all : flat_map (λ rs. rs) ((first ∷ lists) ++ rows ∷ []) ≡ flat_map (λ rs. rs) (first ∷ lists) ++ rows =
    flat_map-append (λ (rs : List ArgRow). rs) (first ∷ lists) (rows ∷ [])
    ∙ ap (λ rs. flat_map (λ rs. rs) (first ∷ lists) ++ rs) (append-nil rows) in
    rw each (ap (λ rs. folded f rs ∷ []) all ∙ ap (λ s. s ∷ []) (fold-append f.step f.initial (flat_map (λ rs. rs) (first ∷ lists)) rows))
  where
    append-nil : (xs : List ArgRow) → xs ++ [] ≡ xs
    append-nil [] = refl
    append-nil (x ∷ xs) = ap (λ ys. x ∷ ys) (append-nil xs)

-- with these row lists of the key before, by whether it has any
states_more : (f : Folding) (store : Store) (key : Key) (lists : List (List ArgRow)) (rows : List ArgRow) (before : List (List ℕ))
    (was now : List ℕ)
    → IsStore store → epochs_of store.keys key ≡ epochs_shown (length lists) → states_of store key ≡ stored f lists
    → before ++ was ∷ [] ≡ (if makes_row store key f.row_per_epoch then states_of store key ++ f.initial ∷ [] else states_of store key)
    → ((f.row_per_epoch ≡ true → was ≡ f.initial) → now ≡ fold f.step was rows)
    → before ++ now ∷ [] ≡ stored f (lists ++ rows ∷ [])
states_more f store key lists rows before was now s count states e merged = by_test f.row_per_epoch
    (λ each.
    let made : makes_row store key f.row_per_epoch ≡ true = rw each refl in
    let ends = ends_alike before (states_of store key) was f.initial (rw made at e) in
    let value : now ≡ folded f rows = merged (λ h. ends.1) ∙ ap (λ w. fold f.step w rows) ends.1 in
    ap (λ w. before ++ w ∷ []) value ∙ (ap (λ ws. ws ++ folded f rows ∷ []) (ends.0 ∙ states) ∙ sym (each_more f lists rows each)))
    (λ each. of_one f store key lists rows before was now s count states e (merged (λ h. absurd (true≢false (sym h ∙ each)))) each)
  where
    shown_some : (n : ℕ) → 0 < epochs_shown (suc n)
    shown_some n = omega arith

    of_one : (f : Folding) (store : Store) (key : Key) (lists : List (List ArgRow)) (rows : List ArgRow) (before : List (List ℕ))
        (was now : List ℕ)
        → IsStore store → epochs_of store.keys key ≡ epochs_shown (length lists) → states_of store key ≡ stored f lists
        → before ++ was ∷ [] ≡ (if makes_row store key f.row_per_epoch then states_of store key ++ f.initial ∷ [] else states_of store key)
        → now ≡ fold f.step was rows → f.row_per_epoch ≡ false
        → before ++ now ∷ [] ≡ stored f (lists ++ rows ∷ [])
    of_one f store key [] rows before was now s count states e merged each =
        let new = is_new store key s count in
        let made : makes_row store key f.row_per_epoch ≡ true = rw (each, new) refl in
        let none : states_of store key ≡ [] = states ∙ rw each refl in
        let ends = ends_alike before (states_of store key) was f.initial (rw made at e) in
        ap (λ w. before ++ w ∷ []) (merged ∙ ap (λ w. fold f.step w rows) ends.1)
        ∙ (ap (λ ws. ws ++ folded f rows ∷ []) (ends.0 ∙ none) ∙ sym (one_first f rows each))
    of_one f store key (first ∷ lists) rows before was now s count states e merged each =
        let known = is_known store key (subst (λ n. 0 < n) (sym count) (shown_some (length lists))) in
        let made : makes_row store key f.row_per_epoch ≡ false = rw (each, known) refl in
        let one : states_of store key ≡ folded f (flat_map (λ rs. rs) (first ∷ lists)) ∷ [] = states ∙ rw each refl in
        let ends = ends_alike before [] was (folded f (flat_map (λ rs. rs) (first ∷ lists))) ((rw made at e) ∙ one) in
        ap (λ w. before ++ w ∷ []) (merged ∙ ap (λ w. fold f.step w rows) ends.1)
        ∙ (ap (λ ws. ws ++ fold f.step (folded f (flat_map (λ rs. rs) (first ∷ lists))) rows ∷ []) ends.0
        ∙ sym (one_more_rows f first lists rows each))

-- An epoch of the key was counted, and its entry merged into the key's last row: the store has one epoch more.
pub merged_holds : EpochsAreCounted → RowsAreAdded → LastRowsAreWritten → MergedEpochsAreHeld
merged_holds counts adds writes f old middle new key place was now rows s t long long_state m l w long_now n merged epochs h = record {
  count = λ other.
      let keys : epochs_of new.keys other ≡ epochs_of (with_epoch old.keys key) other = ap (λ x. epochs_of x.keys other) n
      ∙ ap (λ x. epochs_of x.keys other) m in
      keys ∙ (counts old.keys key other ∙ by_test (key_eq key other)
      (λ e. let same = key_eq-true key other e in
      let self : key_eq key key ≡ true = subst (λ k. key_eq key k ≡ true) (sym same) e in
      let c = h.count other in
      let more : length (lists_of other (epochs ++ record { key = key; rows = rows } ∷ [])) ≡ length (lists_of other epochs) + 1 =
      subst (λ k. length (lists_of k (epochs ++ record { key = key; rows = rows } ∷ [])) ≡ length (lists_of k epochs) + 1) same
      (ap length (lists_more_same key rows epochs self) ∙ length-append (lists_of key epochs) (rows ∷ [])) in
      rw (e, c, more) (shown_more (length (lists_of other epochs))))
      (λ e. rw e (h.count other ∙ ap (λ ls. epochs_shown (length ls)) (sym (lists_more_other key other rows epochs e)))));
  rows = λ other.
      ap (λ x. states_of x other) n ∙ (writes middle key other place now t l long_now ∙ by_test (key_eq key other)
      (λ e. let same = key_eq-true key other e in
      let self : key_eq key key ≡ true = subst (λ k. key_eq key k ≡ true) (sym same) e in
      let last = last_state middle.rows (number_of middle.keys key) place was l w in
      let added : states_of middle key ≡ (if makes_row old key f.row_per_epoch then states_of old key ++ f.initial
      ∷ [] else states_of old key) =
      ap (λ x. states_of x key) m ∙ (adds old key key f.initial f.row_per_epoch s long long_state ∙ rw self refl) in
      let states = states_more f old key (lists_of key epochs) rows last.0 was now s (h.count key) (h.rows key) (sym last.1 ∙ added)
      merged in
      let here : with_last (states_of middle key) now ≡ stored f (lists_of key (epochs ++ record { key = key; rows = rows } ∷ [])) =
      ap (λ ws. with_last ws now) last.1 ∙ (last_written last.0 was now
      ∙ (states ∙ ap (stored f) (sym (lists_more_same key rows epochs self)))) in
      rw e (subst (λ k. with_last (states_of middle k) now ≡ stored f (lists_of k (epochs ++ record { key = key; rows = rows } ∷ []))) same
      here))
      (λ e. rw e (ap (λ x. states_of x other) m ∙ (adds old key other f.initial f.row_per_epoch s long long_state
      ∙ (rw e refl ∙ (h.rows other ∙ ap (stored f) (sym (lists_more_other key other rows epochs e))))))));
}
  where
    shown_more : (n : ℕ) → one_more (epochs_shown n) ≡ epochs_shown (n + 1)
    shown_more n = omega arith
