-- The laws of additive folds.
use Rattle.std.specs.Prelude.{◌≡◌, ℕ, ◌+◌, ◌%◌, ◌^◌, ◌<◌, true, false, List, ◌∷◌, ◌++◌, length, map, slice_index, sum_by}
use Rattle.std.specs.List.Sorted.{IsPermutation}
use Rattle.epoch_model.specs.{Keys.{Key, ArgRow, ascending}, Epochs.Geometry, Machine.lists_of, Laws.{HasRoom, rows_given}}
use Rattle.epoch_model.specs.{Tables.{Folding, exact_row, closed_rows}, TableLaws.keys_given}
use Rattle.query_lang.specs.{declared.fold.TypedFold.TypedFold, Words.AreWords, Folds.{IsValidFold, fold_states, body, folded}}
use Rattle.fold_code.specs.Additive.{is_additive}
use Rattle.additive_laws.specs.{Amounts.{amount, plus}, Pieces.{Given, Piece, rows_joined, all_rows, rows_from, lists_merged, Interleaves}}
use Rattle.additive_laws.specs.Network.{SwitchEvent, SwitchEpoch, all_events, all_epochs, AllMerged}

-- a valid additive fold, and a state for it
pub record IsAdditiveFrom (f : TypedFold) (state : List ℕ) : Type 0 where
  pub valid : IsValidFold f
  pub additive : is_additive f ≡ true
  pub size : length state ≡ fold_states f
  pub words : AreWords state

-- A step adds to each state variable an amount that the argument row alone gives.
abbrev pub StepAdds : Type 0
StepAdds = (f : TypedFold) (state : List ℕ) (row : ArgRow) → IsAdditiveFrom f state → body f state row ≡ plus state (amount f row)

-- After a list of rows each state variable is its start and the sum of the rows' amounts.
abbrev pub StateIsASum : Type 0
StateIsASum = (f : TypedFold) (state : List ℕ) (rows : List ArgRow) (v : ℕ) → IsAdditiveFrom f state → v < fold_states f
    → slice_index (folded f state rows) v ≡ (slice_index state v + sum_by (λ row. slice_index (amount f row) v) rows) % 2 ^ 64

-- Two neighbouring rows can be exchanged.
abbrev pub NeighboursMayBeExchanged : Type 0
NeighboursMayBeExchanged = (f : TypedFold) (state : List ℕ) (before after : List ArgRow) (a b : ArgRow) → IsAdditiveFrom f state
    → folded f state (before ++ a ∷ b ∷ after) ≡ folded f state (before ++ b ∷ a ∷ after)

-- The rows can be put into any order.
abbrev pub RowsComeInAnyOrder : Type 0
RowsComeInAnyOrder = (f : TypedFold) (state : List ℕ) (rows others : List ArgRow) → IsAdditiveFrom f state → IsPermutation rows others
    → folded f state rows ≡ folded f state others

-- Two traces that have the same rows of each switch lead to the same state.
abbrev pub SwitchesInterleaveAnyWay : Type 0
SwitchesInterleaveAnyWay = (f : TypedFold) (state : List ℕ) (given other : List Given) → IsAdditiveFrom f state
    → ((switch : ℕ) → rows_from switch given ≡ rows_from switch other)
    → folded f state (all_rows given) ≡ folded f state (all_rows other)

-- The pieces of several switches, merged in any order, lead to the state after all rows in the order of the trace.
abbrev pub PiecesMergeInAnyOrder : Type 0
PiecesMergeInAnyOrder = (f : TypedFold) (state : List ℕ) (given : List Given) (pieces merged : List Piece) → IsAdditiveFrom f state
    → Interleaves given pieces → IsPermutation pieces merged
    → folded f state (rows_joined (lists_merged merged)) ≡ folded f state (all_rows given)

-- One store merges the epochs of several switches: the state of a key is the fold over the rows of all its packets in the order
-- of the events, whatever the order of the merges and of the events between switches.
abbrev pub StoreFoldsAllPackets : Type 0
StoreFoldsAllPackets = (f : TypedFold) (state : List ℕ) (g : Geometry) (events : List SwitchEvent) (merged : List SwitchEpoch) (key : Key)
    → IsAdditiveFrom f state → HasRoom g → AllMerged g events merged
    → folded f state (rows_joined (lists_of key (all_epochs merged))) ≡ folded f state (rows_given key (all_events events))

-- The table of such a store, of an additive fold: each key of the events has one row, whose state is the fold over the rows of all
-- its packets in the order of the events. Only the number of epochs beside it is of the merged epochs.
abbrev pub StoreTableFoldsAllPackets : Type 0
StoreTableFoldsAllPackets = (f : TypedFold) (folding : Folding) (g : Geometry) (events : List SwitchEvent) (merged : List SwitchEpoch)
    → folding.step ≡ body f → folding.row_per_epoch ≡ false → IsAdditiveFrom f folding.initial → HasRoom g
    → AllMerged g events merged
    → closed_rows folding (all_epochs merged)
    ≡ map (λ key. exact_row folding key (length (lists_of key (all_epochs merged))) (rows_given key (all_events events)))
    (ascending (keys_given (all_events events)))
