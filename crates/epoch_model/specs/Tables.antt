-- The rows of a groupby's table, for any way of folding: by the uses of the whole trace, and by closed epochs.
use Rattle.std.specs.Prelude.{ℕ, suc, ◌-◌, ◌^◌, Bool, List, [], ◌∷◌, ◌==◌, min, fold, length, map, filter, flat_map, sum_by, if◌then◌else◌}
use Rattle.epoch_model.specs.{declared.tables.{Mark.{Mark, TheVariants.{Exact, Valid, Invalid}}, Row.Row}, Keys.{Key, ArgRow, ascending}}
use Rattle.epoch_model.specs.{Epochs.{Use, Geometry, is_use_of, epochs}, Machine.{Epoch, lists_of}}

-- How argument rows are folded into a state, and whether each epoch has a table row of its own.
pub record Folding : Type 0 where
  pub step : List ℕ → ArgRow → List ℕ
  pub initial : List ℕ
  pub row_per_epoch : Bool

-- the argument rows folded from the initial state
abbrev pub folded : Folding → List ArgRow → List ℕ
folded f rows = fold f.step f.initial rows

-- a number of epochs as a word, at most 2^64-1
abbrev pub epochs_shown : ℕ → ℕ
epochs_shown count = min count (2 ^ 64 - 1)

-- one table row for all argument rows of the key
abbrev pub exact_row : Folding → Key → ℕ → List ArgRow → Row
exact_row f key count rows = record { key = key; mark = Exact; epoch = 0; epochs = epochs_shown count; values = folded f rows }

-- an epoch of a key is valid exactly where the key has no other
abbrev pub mark_of : ℕ → Mark
mark_of count = if count == 1 then Valid else Invalid

-- one table row for each of the lists, numbered from this number on
abbrev pub epoch_rows : Folding → Key → ℕ → ℕ → List (List ArgRow) → List Row
epoch_rows f key count number [] = []
epoch_rows f key count number (rows ∷ lists) =
    record {
      key = key;
      mark = mark_of count;
      epoch = number;
      epochs = epochs_shown count;
      values = folded f rows;
    } ∷ epoch_rows f key count (suc number) lists

-- The key's table rows, by the uses of the whole trace: one for each epoch, or one for all of the key's argument rows.
abbrev pub key_rows : Folding → Geometry → List Use → Key → List Row
key_rows f g uses key =
    let pieces = epochs g uses key in
    if f.row_per_epoch then epoch_rows f key (length pieces) 1 pieces
    else (exact_row f key (length pieces) (map (λ u. u.row) (filter (is_use_of key) uses)) ∷ [])

-- the keys of the table, in ascending order
abbrev pub keys_used : List Use → List Key
keys_used uses = ascending (map (λ u. u.key) uses)

-- The rows of the table.
abbrev pub group_rows : Folding → Geometry → List Use → List Row
group_rows f g uses = flat_map (key_rows f g uses) (keys_used uses)

-- The number of epochs over all keys of the table.
abbrev pub group_epochs : Geometry → List Use → ℕ
group_epochs g uses = epochs_shown (sum_by (λ key. length (epochs g uses key)) (keys_used uses))

-- The same by closed epochs alone: the key's rows, the keys, the rows of all keys, and the number of epochs.

abbrev pub closed_key_rows : Folding → List Epoch → Key → List Row
closed_key_rows f closed key =
    let lists = lists_of key closed in
    if f.row_per_epoch then epoch_rows f key (length lists) 1 lists
    else (exact_row f key (length lists) (flat_map (λ rows. rows) lists) ∷ [])

abbrev pub closed_keys : List Epoch → List Key
closed_keys closed = ascending (map (λ epoch. epoch.key) closed)

abbrev pub closed_rows : Folding → List Epoch → List Row
closed_rows f closed = flat_map (closed_key_rows f closed) (closed_keys closed)

abbrev pub closed_epochs : List Epoch → ℕ
closed_epochs closed = epochs_shown (sum_by (λ key. length (lists_of key closed)) (closed_keys closed))
