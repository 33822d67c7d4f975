-- The rows of a view, as they are made key by key.
use Rattle.std.specs.{Prelude.{◌≡◌, ◌<◌, ℕ, true, false, List, [], ◌∷◌, ◌++◌, flat_map, length, sum_by}, declared.cmp.Ordering.Ordering}
use Rattle.std.specs.declared.cmp.Ordering.TheVariants.{Greater}
use Rattle.epoch_model.specs.{declared.tables.Row.Row, Keys.{IsAscending, Key, ascending, has, key_cmp}, Machine.{Epoch, lists_of}}
use Rattle.epoch_model.specs.Tables.{Folding, closed_key_rows, closed_rows, epochs_shown}
use Rattle.backing_store.specs.{SortedRows.stored_rows, Store.{Store, states_of}}

-- Rows are those of these keys of a store, by ascending key, and each key has some.
pub record AreLeft (store : Store) (keys : List Key) (rows : List Row) : Type 0 where
  pub are : rows ≡ flat_map (stored_rows store) keys
  pub up : IsAscending keys
  pub some : (key : Key) → has key keys ≡ true → 0 < length (states_of store key)

-- The rows so far, and how many epochs they are for: with those of the keys that are left they are the rows of the epochs.
pub record AreSeen (f : Folding) (epochs : List Epoch) (left : List Key) (rows : List Row) (counted : ℕ) : Type 0 where
  pub table : rows ++ flat_map (closed_key_rows f epochs) (ascending left) ≡ closed_rows f epochs
  pub count : counted ≡ epochs_shown (sum_by (λ row. row.epochs) rows)

-- A walk through the keys that are left of a store, and those that are left of the entries after it: the rows so far are seen, and a
-- key that is left on one side alone has epochs on that side alone.
pub record IsWalk (f : Folding) (closed unmerged : List Epoch) (entries : Store) (mains keys : List Key) (rest rows : List Row)
    (counted : ℕ) : Type 0 where
  pub left : AreLeft entries keys rest
  pub up : IsAscending mains
  pub new : (key : Key) → has key keys ≡ true → has key mains ≡ false → lists_of key closed ≡ []
  pub old : (key : Key) → has key mains ≡ true → has key keys ≡ false → lists_of key unmerged ≡ []
  pub seen : AreSeen f (closed ++ unmerged) (mains ++ keys) rows counted

-- how the first of the keys compares with a key: where there is none it is greater
abbrev pub first_compared : List Key → Key → Ordering
first_compared [] key = Greater
first_compared (first ∷ keys) key = key_cmp first key

-- these keys begin with the one whose first word this is: a key whose first word is smaller comes before them
abbrev pub BeginsAt : List Key → ℕ → Type 0
BeginsAt keys least = (word : ℕ) (rest : Key) → word < least → first_compared keys (word ∷ rest) ≡ Greater
