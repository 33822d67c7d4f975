-- A table grouped by columns, as epochs of one row each.
use Rattle.std.specs.Prelude.{ℕ, false, List, [], ◌∷◌, map}
use Rattle.query_lang.specs.{declared.fold.TypedFold.TypedFold, Folds.{body, initial_state}, Streams.values_at}
use Rattle.epoch_model.specs.{declared.tables.Row.Row, Machine.Epoch, Tables.Folding}
use Rattle.final_queries.specs.Finals.{columns_of, grouped_key, plain_row}

-- the fold's body, with one row for each key
abbrev pub whole_folding : TypedFold → Folding
whole_folding f = record { step = body f; initial = initial_state f; row_per_epoch = false }

-- what a row gives its key
abbrev pub row_epoch : List ℕ → List ℕ → Row → Epoch
row_epoch keys args row = record { key = grouped_key keys row; rows = values_at (columns_of row) args ∷ [] }

abbrev pub row_epochs : List ℕ → List ℕ → List Row → List Epoch
row_epochs keys args rows = map (row_epoch keys args) rows

-- the row of a final for a row of a store
abbrev pub plain_of : Row → Row
plain_of row = plain_row row.key row.values
