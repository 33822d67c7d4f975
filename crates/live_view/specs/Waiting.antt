-- The entries of epochs that aren't merged yet, kept by key.
use Rattle.std.specs.Prelude.{◌≡◌, ⊤, ℕ, List, [], ◌∷◌, ◌++◌, drop, length}
use Rattle.epoch_model.specs.{declared.tables.Row.Row, Keys.{ArgRow, Key}, Machine.{Epoch, Machine, lists_of}, Tables.epochs_shown}
use Rattle.backing_store.specs.Store.{Store, epochs_of, states_of}
use Rattle.switch_core.specs.Lanes.{Standing}
use Rattle.live_view.specs.Views.{open_epochs}

-- the epochs that aren't merged: the closed ones that wait, and then the open ones
abbrev pub unmerged : Machine → List Epoch
unmerged m = drop m.merged m.closed ++ open_epochs m

-- entries that represent these row lists, in order
abbrev pub EachStands : Standing → List (List ℕ) → List (List ArgRow) → Type 0
EachStands stands [] [] = ⊤
EachStands stands [] (rows ∷ lists) = ⊥
EachStands stands (entry ∷ entries) [] = ⊥
EachStands stands (entry ∷ entries) (rows ∷ lists) = stands entry rows × EachStands stands entries lists

-- A store of entries has one row for each of these epochs of a key, in their order, and counts them.
pub record EntriesStand (stands : Standing) (store : Store) (epochs : List Epoch) : Type 0 where
  pub count : (key : Key) → epochs_of store.keys key ≡ epochs_shown (length (lists_of key epochs))
  pub rows : (key : Key) → EachStands stands (states_of store key) (lists_of key epochs)

-- one row for each epoch, in one order: its key is the epoch's, and its values represent the epoch's rows
abbrev pub RowsStand : Standing → List Row → List Epoch → Type 0
RowsStand stands [] [] = ⊤
RowsStand stands [] (epoch ∷ epochs) = ⊥
RowsStand stands (row ∷ rows) [] = ⊥
RowsStand stands (row ∷ rows) (epoch ∷ epochs) = (row.key ≡ epoch.key) × stands row.values epoch.rows × RowsStand stands rows epochs
