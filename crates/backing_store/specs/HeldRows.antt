-- A store after one epoch more, and the table of the epochs that a store holds.
use Rattle.std.specs.Prelude.{◌≡◌, ℕ, true, List, [], ◌∷◌, ◌++◌, Some, length, map, fold, slice_get, option_map, sum_by}
use Rattle.epoch_model.specs.{Keys.{Key, ArgRow}, Machine.Epoch, Tables.{Folding, epochs_shown, closed_rows, closed_epochs}}
use Rattle.backing_store.specs.{Store.{Store, IsStore, IsLastRowOf, counted}, StoreLending.with_words_at, SortedRows.sorted_rows}
use Rattle.backing_store.specs.Merged.{StoreHolds, shown_row, epochs_in}

-- One epoch of a key was counted, and its rows folded into the words of the key's last row: the store holds that epoch after the others.
abbrev pub MergedEpochsAreHeld : Type 0
MergedEpochsAreHeld = (f : Folding) (old middle new : Store) (key : Key) (place : ℕ) (was now : List ℕ) (rows : List ArgRow)
    → IsStore old → IsStore middle → length key ≡ old.key_words → length f.initial ≡ old.state_words
    → middle ≡ counted old key f.initial f.row_per_epoch → IsLastRowOf middle key place
    → option_map (λ row. row.words) (slice_get middle.rows place) ≡ Some was → length now ≡ middle.state_words
    → new ≡ record middle { rows = with_words_at middle.rows place now }
    → ((f.row_per_epoch ≡ true → was ≡ f.initial) → now ≡ fold f.step was rows)
    → (epochs : List Epoch) → StoreHolds f old epochs → StoreHolds f new (epochs ++ record { key = key; rows = rows } ∷ [])

-- The rows of a store that holds these epochs are those of their table, and so is the number of epochs.
pub record HeldRowsAreTheTables : Type 0 where
  pub rows : (f : Folding) (store : Store) (closed : List Epoch) → IsStore store → StoreHolds f store closed
      → map (shown_row f.row_per_epoch) (sorted_rows store) ≡ closed_rows f closed
  pub epochs : (f : Folding) (store : Store) (closed : List Epoch) → IsStore store → StoreHolds f store closed
      → epochs_shown (sum_by (epochs_in f.row_per_epoch) (sorted_rows store)) ≡ closed_epochs closed
