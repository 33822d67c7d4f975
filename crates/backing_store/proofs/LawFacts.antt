-- What an epoch of a key, and what is written into its last row, mean for each key.
use Rattle.std.proofs.Common.{◌≡◌, ℕ, suc, zero, ◌<◌, ◌≤◌, ◌||◌, Bool, true, false, cond, List, [], ◌∷◌, ◌++◌, drop, length, slice_get}
use Rattle.std.proofs.{Common.{Some, refl, sym, ap, ◌∙◌, eq-eqb, inl, inr, arith}, lemmas.{Bool.{cases_lt, ne_eqb}, List.drop_all}}
use Rattle.std.{proofs.lemmas.Option.same_Some, specs.Prelude.{◌==◌}}
use Rattle.epoch_model.{specs.Keys.{Key, has, key_eq}, proofs.KeyLists.{by_test, key_eq-not, key_eq-refl, key_eq-sym_false, key_eq-true}}
use Rattle.bucket_cache.proofs.LentEntries.{over-all}
use Rattle.backing_store.specs.Store.{AreRowsOf, IsLastIn, Store, StoredKey, StoredRow, makes_row, number_of, row_keys, states_at}
use Rattle.backing_store.specs.Store.{with_epoch}
use Rattle.backing_store.specs.StoreLaws.{EpochsAreCounted, KeysAreKept, LastRowsAreWritten, RowsAreAdded, keys_of, with_last}
use Rattle.backing_store.{specs.StoreLending.with_words_at, proofs.{SortedFacts.{no_states, states_push}, StateFacts.written-whole}}
use Rattle.backing_store.proofs.StoreKept.{missing_counted, store_counted}

or_swap : (a b c : Bool) → (a || (b || c)) ≡ (b || (a || c))
or_swap true true c = refl
or_swap true false c = refl
or_swap false true c = refl
or_swap false false c = refl

or_twice : (a b : Bool) → (a || b) ≡ (a || (a || b))
or_twice true b = refl
or_twice false b = refl

pub keys_kept : KeysAreKept
keys_kept [] key other = refl
keys_kept (stored ∷ keys) key other = by_test (key_eq key stored.key)
    (λ same. rw same (or_twice (key_eq stored.key other) (has other (keys_of keys))
    ∙ ap (λ k. key_eq k other || (key_eq stored.key other || has other (keys_of keys))) (sym (key_eq-true key stored.key same))))
    (λ differs. rw (differs, keys_kept keys key other) (or_swap (key_eq stored.key other) (key_eq key other) (has other (keys_of keys))))

-- the other way round
key_eq-swap : (a b : Key) → key_eq a b ≡ key_eq b a
key_eq-swap a b = by_test (key_eq a b)
    (λ same. same ∙ sym (ap (λ k. key_eq k a) (sym (key_eq-true a b same)) ∙ key_eq-refl a))
    (λ differs. differs ∙ sym (key_eq-sym_false a b differs))

pub epochs_counted : EpochsAreCounted
epochs_counted [] key other = by_test (key_eq key other)
    (λ same. rw (key_eq-swap other key, same) refl)
    (λ differs. rw (key_eq-swap other key, differs) refl)
epochs_counted (stored ∷ keys) key other = by_test (key_eq key stored.key)
    (λ here. by_test (key_eq other stored.key)
    (λ same. rw (here, same, key_eq-true key stored.key here, key_eq-swap stored.key other, same) refl)
    (λ differs. rw (here, differs, key_eq-true key stored.key here, key_eq-swap stored.key other, differs) refl))
    (λ there. by_test (key_eq other stored.key)
    (λ same. rw (there, same, key_eq-true other stored.key same, there) refl)
    (λ differs. rw (there, differs) (epochs_counted keys key other)))

-- keys that are there keep their numbers
number_stays : (keys : List StoredKey) (key other : Key) → number_of keys other < length keys
    → number_of (with_epoch keys key) other ≡ number_of keys other
number_stays [] key other there = absurd (omega arith)
number_stays (stored ∷ keys) key other there = by_test (key_eq key stored.key)
    (λ here. rw here refl)
    (λ apart. by_test (key_eq other stored.key)
    (λ same. rw (apart, same) refl)
    (λ differs. rw (apart, differs, number_stays keys key other (omega (arith, rw differs at there))) refl))

number_new : (keys : List StoredKey) (key : Key) → number_of (with_epoch keys key) key ≡ number_of keys key
number_new [] key = rw (key_eq-refl key) refl
number_new (stored ∷ keys) key = by_test (key_eq key stored.key)
    (λ here. rw (here, here) refl)
    (λ apart. rw (apart, apart, number_new keys key) refl)

number_bound : (keys : List StoredKey) (key : Key) → number_of keys key ≤ length keys
number_bound [] key = omega arith
number_bound (stored ∷ keys) key = by_test (key_eq key stored.key) (λ here. rw here (omega arith))
    (λ apart. rw apart (omega (arith, number_bound keys key)))

-- different keys that are there have different numbers
numbers_differ : (keys : List StoredKey) (key other : Key) → key_eq key other ≡ false → number_of keys other < length keys
    → number_of keys key ≡ number_of keys other → ⊥
numbers_differ [] key other apart there same = omega arith
numbers_differ (stored ∷ keys) key other apart there same = by_test (key_eq key stored.key)
    (λ here. by_test (key_eq other stored.key)
    (λ also. key_eq-not key other apart (key_eq-true key stored.key here ∙ sym (key_eq-true other stored.key also)))
    (λ differs. omega (arith, rw (here, differs) at same)))
    (λ not_here. by_test (key_eq other stored.key)
    (λ also. omega (arith, rw (not_here, also) at same))
    (λ differs. numbers_differ keys key other apart (omega (arith, rw differs at there)) (omega (arith, rw (not_here, differs) at same))))

-- the rows of a store with one epoch more
abbrev rows_after : Store → Key → List ℕ → Bool → List StoredRow
rows_after store key initial made = cond made (store.rows ++ record { key = number_of store.keys key; words = initial } ∷ []) store.rows

same_number : (store : Store) (key : Key) (initial : List ℕ) (made : Bool)
    → states_at (rows_after store key initial made) (number_of store.keys key)
    ≡ cond made (states_at store.rows (number_of store.keys key) ++ initial ∷ []) (states_at store.rows (number_of store.keys key))
same_number store key initial false = refl
same_number store key initial true =
    let n = number_of store.keys key in
    states_push store.rows (record { key = n; words = initial }) n ∙ ap
    (λ t. cond t (states_at store.rows n ++ initial ∷ []) (states_at store.rows n)) (eq-eqb n n refl)

other_number : (store : Store) (key : Key) (initial : List ℕ) (made : Bool) (m : ℕ) → (number_of store.keys key ≡ m → ⊥)
    → states_at (rows_after store key initial made) m ≡ states_at store.rows m
other_number store key initial false m differs = refl
other_number store key initial true m differs =
    let n = number_of store.keys key in
    states_push store.rows (record { key = n; words = initial }) m ∙ ap
    (λ t. cond t (states_at store.rows m ++ initial ∷ []) (states_at store.rows m)) (ne_eqb n m differs)

pub rows_added : RowsAreAdded
rows_added store key other initial row_per_epoch kept key_size row_size =
    let made = makes_row store key row_per_epoch in
    let after = store_counted store key initial row_per_epoch kept key_size row_size in
    by_test (key_eq key other)
    (λ same.
    let is = key_eq-true key other same in
    rw (same, ← is, number_new store.keys key) (same_number store key initial made))
    (λ apart. rw apart (elim (cases_lt (number_of store.keys other) (length store.keys)) [
      | inl there ↦
          ap (λ n. states_at (rows_after store key initial made) n) (number_stays store.keys key other there)
          ∙ other_number store key initial made (number_of store.keys other) (numbers_differ store.keys key other apart there)
      | inr past ↦
          let missing : number_of store.keys other ≡ length store.keys = omega (arith, number_bound store.keys other) in
          let now = missing_counted store.keys key other missing apart in
          ap (λ n. states_at (rows_after store key initial made) n) now
          ∙ no_states (length (with_epoch store.keys key)) store.state_words (length (with_epoch store.keys key))
          (rows_after store key initial made) after.rows (omega arith)
          ∙ sym (ap (λ n. states_at store.rows n) missing ∙ no_states (length store.keys) store.state_words (length store.keys) store.rows
          kept.rows (omega arith))
    ]))

no_later : (rows : List StoredRow) (m : ℕ) → ((later : ℕ) → slice_get (row_keys rows) later ≡ Some m → ⊥) → states_at rows m ≡ []
no_later [] m none = refl
no_later (row ∷ rows) m none =
    rw (ne_eqb row.key m (λ e. none 0 (ap Some e))) (no_later rows m (λ later here. none (suc later) here))

some_state : (rows : List StoredRow) (m place : ℕ) → slice_get (row_keys rows) place ≡ Some m → 0 < length (states_at rows m)
some_state [] m place here = absurd (cc here)
some_state (row ∷ rows) m zero here = rw (eq-eqb row.key m (same_Some _ _ here)) (omega arith)
some_state (row ∷ rows) m (suc place) here = by_test (row.key == m)
    (λ same. rw same (omega arith))
    (λ differs. rw differs (some_state rows m place here))

last_of_more : (x : List ℕ) (xs : List (List ℕ)) (item : List ℕ) → 0 < length xs → with_last (x ∷ xs) item ≡ x ∷ with_last xs item
last_of_more x [] item some = absurd (omega arith)
last_of_more x (y ∷ xs) item some = refl

-- what is written into a row of as many words changes no row after it
only_one : (row : StoredRow) (rows : List StoredRow) (state : List ℕ) → length state ≡ length row.words
    → with_words_at rows 0 (drop (length row.words) state) ≡ rows
only_one row rows state same = ap (λ rest. with_words_at rows 0 rest) (drop_all (length row.words) state (omega (arith, same)))
    ∙ written-whole rows

written_last : (keys words : ℕ) (rows : List StoredRow) (m place : ℕ) (state : List ℕ) → AreRowsOf keys words rows
    → IsLastIn (row_keys rows) m place → length state ≡ words
    → states_at (with_words_at rows place state) m ≡ with_last (states_at rows m) state
written_last keys words [] m place state are is size = absurd (cc is.here)
written_last keys words (row ∷ rows) m zero state are is size =
    let here = eq-eqb row.key m (same_Some _ _ is.here) in
    let none = no_later rows m (λ later at. is.last (suc later) (omega arith) at) in
    rw (here, only_one row rows state (size ∙ sym are.1), none, over-all row.words state (size ∙ sym are.1)) refl
written_last keys words (row ∷ rows) m (suc place) state are is size =
    let rest : IsLastIn (row_keys rows) m place = record {
      here = is.here;
      last =
          λ later after at. is.last (suc later) (omega (arith, after)) at;
    } in
    let more = written_last keys words rows m place state are.2 rest size in
    by_test (row.key == m)
    (λ same. rw (same, more) (sym (last_of_more row.words (states_at rows m) state (some_state rows m place is.here))))
    (λ differs. rw (differs, more) refl)

written_other : (keys words : ℕ) (rows : List StoredRow) (n m place : ℕ) (state : List ℕ) → AreRowsOf keys words rows → length state ≡ words
    → slice_get (row_keys rows) place ≡ Some n → (n ≡ m → ⊥) → states_at (with_words_at rows place state) m ≡ states_at rows m
written_other keys words [] n m place state are size here differs = refl
written_other keys words (row ∷ rows) n m zero state are size here differs =
    rw (only_one row rows state (size ∙ sym are.1), ne_eqb row.key m (λ e. differs (sym (same_Some _ _ here) ∙ e))) refl
written_other keys words (row ∷ rows) n m (suc place) state are size here differs = by_test (row.key == m)
    (λ same. rw (same, written_other keys words rows n m place state are.2 size here differs) refl)
    (λ apart. rw (apart, written_other keys words rows n m place state are.2 size here differs) refl)

number_small : (keys words : ℕ) (rows : List StoredRow) (n place : ℕ) → AreRowsOf keys words rows → slice_get (row_keys rows) place ≡ Some n
    → n < keys
number_small keys words [] n place are here = absurd (cc here)
number_small keys words (row ∷ rows) n zero are here = rw (← same_Some _ _ here) are.0
number_small keys words (row ∷ rows) n (suc place) are here = number_small keys words rows n place are.2 here

pub last_written : LastRowsAreWritten
last_written store key other place state kept is size = by_test (key_eq key other)
    (λ same.
    let e = key_eq-true key other same in
    rw (same, ← e) (written_last (length store.keys) store.state_words store.rows (number_of store.keys key) place state kept.rows is size))
    (λ apart. rw apart (written_other (length store.keys) store.state_words store.rows (number_of store.keys key)
    (number_of store.keys other) place state kept.rows size is.here
    (λ e. elim (cases_lt (number_of store.keys other) (length store.keys)) [
      | inl there ↦ numbers_differ store.keys key other apart there e
      | inr past ↦ omega (
        arith,
        number_small (length store.keys) store.state_words store.rows (number_of store.keys key) place kept.rows
            is.here,
        e,
      )
    ])))
