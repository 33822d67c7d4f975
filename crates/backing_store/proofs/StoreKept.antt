-- What holds of every store is kept by a counted epoch and by what is written into a row.
use Rattle.std.proofs.Common.{◌≡◌, ◌↔◌, Some, option_map, slice_get, ℕ, suc, zero, ◌<◌, ◌≤◌, ◌^◌, Bool, false, List, [], ◌∷◌, ◌++◌, length}
use Rattle.std.proofs.{Common.{drop, refl, sym, ap, ◌∙◌, arith}, lemmas.Option.same_Some}
use Rattle.epoch_model.{specs.Keys.{Key, key_eq}, proofs.KeyLists.{by_test, key_eq-sym_false}}
use Rattle.bucket_cache.proofs.LentEntries.{length-over}
use Rattle.backing_store.specs.Store.{AreKeysOf, AreOnce, AreRowsOf, IsStore, Store, StoredKey, StoredRow, counted, epochs_of, makes_row}
use Rattle.backing_store.specs.{Store.{number_of, one_more, with_epoch}, StoreLending.with_words_at}

-- one epoch more is one at least, and a word
one_more-word : (n : ℕ) → (0 < one_more n) × (one_more n < 2 ^ 64)
one_more-word n = (omega arith, omega arith)

keys_counted : (words : ℕ) (keys : List StoredKey) (key : Key) → length key ≡ words → AreKeysOf words keys
    → AreKeysOf words (with_epoch keys key)
keys_counted words [] key size kept = (record { size = size; positive = omega arith; word = omega arith }, tt)
keys_counted words (stored ∷ rest) key size kept = by_test (key_eq key stored.key)
    (λ same. rw same (
      record { size = kept.0.size; positive = (one_more-word stored.epochs).0; word = (one_more-word stored.epochs).1 },
      kept.1,
    ))
    (λ other. rw other (kept.0, keys_counted words rest key size kept.1))

-- a key that isn't there isn't there after an epoch of another
pub missing_counted : (keys : List StoredKey) (key other : Key) → number_of keys other ≡ length keys → key_eq key other ≡ false
    → number_of (with_epoch keys key) other ≡ length (with_epoch keys key)
missing_counted [] key other missing apart = rw (key_eq-sym_false key other apart) refl
missing_counted (stored ∷ rest) key other missing apart = by_test (key_eq other stored.key)
    (λ same. absurd (omega (arith, rw same at missing)))
    (λ differs.
    let later : number_of rest other ≡ length rest = omega (arith, rw differs at missing) in
    by_test (key_eq key stored.key)
    (λ here. rw (here, differs, later) (omega arith))
    (λ there. rw (there, differs, missing_counted rest key other later apart) (omega arith)))

once_counted : (keys : List StoredKey) (key : Key) → AreOnce keys → AreOnce (with_epoch keys key)
once_counted [] key once = (refl, tt)
once_counted (stored ∷ rest) key once = by_test (key_eq key stored.key)
    (λ same. rw same (once.0, once.1))
    (λ other. rw other (missing_counted rest key stored.key once.0 other, once_counted rest key once.1))

-- the key is there after its epoch
within_counted : (keys : List StoredKey) (key : Key) → (number_of keys key < length (with_epoch keys key))
    × (length keys ≤ length (with_epoch keys key))
within_counted [] key = (omega arith, omega arith)
within_counted (stored ∷ rest) key = by_test (key_eq key stored.key)
    (λ same. rw same (omega arith, omega arith))
    (λ other.
    let more = within_counted rest key in
    rw other (omega (arith, more.0), omega (arith, more.1)))

more_keys : (few many words : ℕ) (rows : List StoredRow) → few ≤ many → AreRowsOf few words rows → AreRowsOf many words rows
more_keys few many words [] more kept = tt
more_keys few many words (row ∷ rows) more kept = (omega (arith, kept.0), kept.1, more_keys few many words rows more kept.2)

row_pushed : (keys words : ℕ) (rows : List StoredRow) (row : StoredRow) → AreRowsOf keys words rows → row.key < keys
    → length row.words ≡ words → AreRowsOf keys words (rows ++ row ∷ [])
row_pushed keys words [] row kept within size = (within, size, tt)
row_pushed keys words (first ∷ rows) row kept within size = (kept.0, kept.1, row_pushed keys words rows row kept.2 within size)

pub store_counted : (store : Store) (key : Key) (initial : List ℕ) (row_per_epoch : Bool) → IsStore store → length key ≡ store.key_words
    → length initial ≡ store.state_words
    → IsStore (counted store key initial row_per_epoch)
store_counted store key initial row_per_epoch kept key_size row_size =
    let within = within_counted store.keys key in
    let rows = more_keys (length store.keys) (length (with_epoch store.keys key)) store.state_words store.rows within.1 kept.rows in
    record {
      once = once_counted store.keys key kept.once;
      keys = keys_counted store.key_words store.keys key key_size kept.keys;
      rows = by_test (makes_row store key row_per_epoch)
          (λ made. rw made (row_pushed (length (with_epoch store.keys key)) store.state_words store.rows
          (record { key = number_of store.keys key; words = initial }) rows within.0 row_size))
          (λ kept. rw kept rows);
    }

rows_written : (keys words : ℕ) (rows : List StoredRow) (at : ℕ) (w : List ℕ) → AreRowsOf keys words rows
    → AreRowsOf keys words (with_words_at rows at w)
rows_written keys words [] at w kept = tt
rows_written keys words (row ∷ rows) zero w kept = (
  kept.0,
  length-over row.words w
      ∙ kept.1,
  rows_written keys words rows zero (drop (length row.words) w) kept.2,
)
rows_written keys words (row ∷ rows) (suc at) w kept = (kept.0, kept.1, rows_written keys words rows at w kept.2)

-- what is written into a row keeps the store
pub store_written : (store : Store) (at : ℕ) (w : List ℕ) → IsStore store → IsStore (record store { rows = with_words_at store.rows at w })
store_written store at w kept =
    record { once = kept.once; keys = kept.keys; rows = rows_written (length store.keys) store.state_words store.rows at w kept.rows }

-- the words of a row
pub words_length : (keys words : ℕ) (rows : List StoredRow) (at : ℕ) (w : List ℕ) → AreRowsOf keys words rows
    → option_map (λ row. row.words) (slice_get rows at) ≡ Some w → length w ≡ words
words_length keys words [] at w kept here = cc here
words_length keys words (row ∷ rows) zero w kept here = ap length (sym (same_Some _ _ here)) ∙ kept.1
words_length keys words (row ∷ rows) (suc at) w kept here = words_length keys words rows at w kept.2 here

-- a key has no epochs exactly where it isn't there
pub no_epochs : (words : ℕ) (keys : List StoredKey) (key : Key) → AreKeysOf words keys → (epochs_of keys key ≡ 0)
    ↔ (number_of keys key ≡ length keys)
no_epochs words [] key kept = ((λ _. refl), (λ _. refl))
no_epochs words (stored ∷ rest) key kept = by_test (key_eq key stored.key)
    (λ same. rw same ((λ zero. absurd (omega (arith, kept.0.positive))), (λ past. absurd (omega (arith, past)))))
    (λ other.
    let more = no_epochs words rest key kept.1 in
    rw other ((λ zero. omega (arith, more.0 zero)), (λ past. more.1 (omega (arith, past)))))
