-- What an epoch of a key, and what is written into its last row, mean for each key.
use Rattle.std.specs.Prelude.{ℕ, ◌≡◌, ◌||◌, ◌&&◌, Bool, List, [], ◌∷◌, ◌++◌, if◌then◌else◌, length, map}
use Rattle.epoch_model.specs.Keys.{Key, has, key_eq}
use Rattle.backing_store.specs.Store.{IsLastRowOf, IsStore, Store, StoredKey, counted, epochs_of, makes_row, one_more, states_of}
use Rattle.backing_store.specs.{Store.with_epoch, StoreLending.with_words_at}

-- the keys of a store
abbrev pub keys_of : List StoredKey → List Key
keys_of keys = map (λ stored. stored.key) keys

-- after an epoch of a key, a store has that key and the keys that it had
abbrev pub KeysAreKept : Type 0
KeysAreKept = (keys : List StoredKey) (key other : Key)
    → has other (keys_of (with_epoch keys key)) ≡ (key_eq key other || has other (keys_of keys))

-- after an epoch of a key, the key has one epoch more, and every other key has as many as before
abbrev pub EpochsAreCounted : Type 0
EpochsAreCounted = (keys : List StoredKey) (key other : Key)
    → epochs_of (with_epoch keys key) other ≡ (if key_eq key other then one_more (epochs_of keys other) else epochs_of keys other)

-- an epoch that makes a row adds one row to those of its key, and every other key has the rows that it had
abbrev pub RowsAreAdded : Type 0
RowsAreAdded = (store : Store) (key other : Key) (initial : List ℕ) (row_per_epoch : Bool)
    → IsStore store → length key ≡ store.key_words → length initial ≡ store.state_words
    → states_of (counted store key initial row_per_epoch) other
    ≡ (if key_eq key other && makes_row store key row_per_epoch then states_of store other ++ initial ∷ [] else states_of store other)

-- a list with another last item
abbrev pub with_last : List (List ℕ) → List ℕ → List (List ℕ)
with_last [] item = []
with_last (x ∷ []) item = item ∷ []
with_last (x ∷ y ∷ rest) item = x ∷ with_last (y ∷ rest) item

-- what is written into the last row of a key is its last state, and every other key has the rows that it had
abbrev pub LastRowsAreWritten : Type 0
LastRowsAreWritten = (store : Store) (key other : Key) (place : ℕ) (state : List ℕ)
    → IsStore store → IsLastRowOf store key place → length state ≡ store.state_words
    → states_of (record store { rows = with_words_at store.rows place state }) other
    ≡ (if key_eq key other then with_last (states_of store other) state else states_of store other)
