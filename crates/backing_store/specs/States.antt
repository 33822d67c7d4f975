-- Rows of state, as their numbers of keys and their words show them.
use Rattle.std.specs.Prelude.{ℕ, List, [], ◌∷◌, length}
use Rattle.bucket_cache.specs.Slices.{rows_of}
use Rattle.backing_store.specs.Store.{StoredRow}

-- rows, and how many words each has
pub record StateList : Type 0 where
  pub width : ℕ
  pub rows : List StoredRow

abbrev pub paired : List ℕ → List (List ℕ) → List StoredRow
paired [] rows = []
paired (key ∷ keys) [] = []
paired (key ∷ keys) (words ∷ rows) = record { key = key; words = words } ∷ paired keys rows

abbrev pub states_in : ℕ → List ℕ → List ℕ → List StoredRow
states_in width keys words = paired keys (rows_of width (length keys) words)
