-- How the fields of a store show it.
use Rattle.std.specs.{Prelude.{ℕ, List, ◌≡◌, length, map, slice_get, Some}, List.zip, Map.values_of}
use Rattle.backing_store.specs.Store.{IsLastIn, IsStore, Store, StoredRow, row_keys}
pub use Rattle.backing_store.specs.Stored.{stored}
use Rattle.backing_store.specs.declared.store.{BackingStore.TheInside.Inside, Merged.Merged}

abbrev pub store_with : List (List ℕ × Merged) → List StoredRow → ℕ → ℕ → Store
store_with es rows key_words state_words = record { keys = map stored es; rows = rows; key_words = key_words; state_words = state_words }

-- each key keeps the place of its last row
abbrev pub SoundFor : List (List ℕ × Merged) → List StoredRow → Type 0
SoundFor es rows = (number : ℕ) (merged : Merged) → slice_get (values_of es) number ≡ Some merged → IsLastIn (row_keys rows) number merged.last

abbrev pub IsWhole : List (List ℕ × Merged) → List StoredRow → ℕ → ℕ → Type 0
IsWhole es rows kw sw = IsStore (store_with es rows kw sw) × SoundFor es rows

abbrev pub store_of : Inside → Store
store_of a = store_with (zip a.keys.keys a.merged.items) a.states.rows a.keys.width a.states.width

-- there is an entry for each key, and the store is whole
pub record IsSound (a : Inside) : Type 0 where
  pub many : length a.merged.items ≡ length a.keys.keys
  pub whole : IsWhole (zip a.keys.keys a.merged.items) a.states.rows a.keys.width a.states.width
