-- What is shown of a groupby holds over all rows of its keys, whatever the caches evicted meanwhile.
use Rattle.std.specs.Prelude.{◌≡◌, List, All, map}
use Rattle.query_lang.specs.{declared.fold.TypedFold.TypedFold, Folds.{folded, initial_state}, Words.AreWords}
use Rattle.epoch_model.specs.{Keys.{Key, ArgRow, ascending}, Laws.rows_given, Machine.Event, TableLaws.keys_given}
use Rattle.enclosure_folds.specs.declared.table.Enclosed.{Enclosed}
use Rattle.enclosure_folds.specs.declared.table.Enclosed.TheVariants as enclosed
use Rattle.enclosure_folds.specs.Bounds.{Encloses}

abbrev pub keys_shown : Enclosed → List Key
keys_shown (enclosed.Linear t) = map (λ row. row.key) t.rows
keys_shown (enclosed.Bounds t) = map (λ row. row.key) t.rows

-- The values of a linear fold are the fold over all of these rows of the key. Bounds contain it word by word, low ≤ fold ≤ high, and
-- where a row is marked exact both are the fold.
abbrev pub RowsHold : TypedFold → (Key → List ArgRow) → Enclosed → Type 0
RowsHold f given (enclosed.Linear t) = All (λ row. row.values ≡ folded f (initial_state f) (given row.key)) t.rows
RowsHold f given (enclosed.Bounds t) = All (λ row. Encloses row.low row.high (folded f (initial_state f) (given row.key))) t.rows

-- there is a row for each of these keys, in this order, and the rows hold
pub record HoldsFor (f : TypedFold) (all : List Key) (given : Key → List ArgRow) (t : Enclosed) : Type 0 where
  pub keys : keys_shown t ≡ all
  pub rows : RowsHold f given t

-- there is a row for each key of the packet events, in ascending order, and the rows hold over all of their rows
abbrev pub HoldsAfter : TypedFold → List Event → Enclosed → Type 0
HoldsAfter f events t = HoldsFor f (ascending (keys_given events)) (λ key. rows_given key events) t

-- the rows of the packet events are of words
abbrev pub TakesWords : List Event → Type 0
TakesWords events = (key : Key) → All AreWords (rows_given key events)
