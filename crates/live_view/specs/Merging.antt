-- What merging works with.
use Rattle.std.specs.Prelude.{◌≡◌, ℕ, List, length}
use Rattle.epoch_model.specs.{declared.tables.Row.Row, Tables.Folding}
use Rattle.epoch_entry.specs.Kinds.{Sizes}
use Rattle.backing_store.specs.Store.{Store}

-- the states of a store, the initial state and the room to work in have as many words as a kind of entries says
pub record FitsKind (sizes : Sizes) (f : Folding) (store : Store) (initial scratch : List ℕ) : Type 0 where
  pub state_words : store.state_words ≡ sizes.state
  pub initial_state : initial ≡ f.initial
  pub initial_words : length initial ≡ sizes.state
  pub scratch_words : length scratch ≡ sizes.scratch

-- a row has as many words as a key and an entry
pub record IsEntryOf (key_words entry_words : ℕ) (row : Row) : Type 0 where
  pub key : length row.key ≡ key_words
  pub entry : length row.values ≡ entry_words
