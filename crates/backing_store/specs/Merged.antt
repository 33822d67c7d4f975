-- When a store holds epochs, and the table rows for its rows.
use Rattle.std.specs.Prelude.{◌≡◌, ℕ, Bool, List, [], ◌∷◌, length, map, flat_map, if◌then◌else◌}
use Rattle.epoch_model.specs.{declared.tables.{Mark.TheVariants.Exact, Row.Row}, Keys.{Key, ArgRow}, Machine.{Epoch, lists_of}}
use Rattle.epoch_model.specs.Tables.{Folding, folded, epochs_shown, mark_of}
use Rattle.backing_store.specs.Store.{Store, epochs_of, states_of}

-- the states that a store holds of a key with these merged row lists: one for each list, or one for all their rows
abbrev pub stored : Folding → List (List ArgRow) → List (List ℕ)
stored f lists = if f.row_per_epoch then map (folded f) lists else merged_state lists
  where
    merged_state : List (List ArgRow) → List (List ℕ)
    merged_state [] = []
    merged_state (rows ∷ more) = folded f (flat_map (λ rs. rs) (rows ∷ more)) ∷ []

-- The store counts these epochs of each key, and has their states.
pub record StoreHolds (f : Folding) (store : Store) (epochs : List Epoch) : Type 0 where
  pub count : (key : Key) → epochs_of store.keys key ≡ epochs_shown (length (lists_of key epochs))
  pub rows : (key : Key) → states_of store key ≡ stored f (lists_of key epochs)

-- the table's row for a row of the store: for one epoch, or for all epochs of its key
abbrev pub shown_row : Bool → Row → Row
shown_row row_per_epoch row =
    if row_per_epoch
    then record { key = row.key; mark = mark_of row.epochs; epoch = row.epoch; epochs = row.epochs; values = row.values }
    else record { key = row.key; mark = Exact; epoch = 0; epochs = row.epochs; values = row.values }

-- how many epochs the row is for
abbrev pub epochs_in : Bool → Row → ℕ
epochs_in row_per_epoch row = if row_per_epoch then 1 else row.epochs
