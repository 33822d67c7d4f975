-- What a fold asks of a kind of entries: what its rows are folded to, and how many words and steps it may take.
use Rattle.std.specs.Prelude.{◌≡◌, ℕ, ◌+◌, ◌*◌, ◌≤◌, Bool, true, false, List, fold, length}
use Rattle.query_lang.specs.declared.{fold.TypedFold.TypedFold, typed.Class.{Class, TheVariants.Linear}}
use Rattle.query_lang.specs.Folds.{body, folded, fold_states, fold_args, initial_state}
use Rattle.epoch_model.specs.{Keys.ArgRow, Tables.Folding}
use Rattle.fold_class.specs.{Depth.depth_of, Kinds.{class_of, algebra_of}, Rows.element_size}
use Rattle.epoch_entry.specs.Kinds.{Sizes}

-- whether each epoch of a fold of this class has a separate row
abbrev pub per_epoch : Class → Bool
per_epoch Linear = false
per_epoch Class.Other = true

-- the folding of a fold: its body, its initial state, and whether each epoch has a row
abbrev pub folding_of : TypedFold → Folding
folding_of f = record { step = body f; initial = initial_state f; row_per_epoch = per_epoch (class_of f) }

-- the most words of an entry of the fold: an affine map of all its variables, a history of all of them, the argument rows that it
-- looks back, and two more
abbrev pub entry_bound : TypedFold → ℕ
entry_bound f = element_size (algebra_of f) * fold_states f * (fold_states f + 1) + fold_states f + depth_of f * fold_args f + 2

-- the most steps of absorbing one row: the map of one step, its composition, and a few moves of the entry
abbrev pub absorb_bound : TypedFold → ℕ
absorb_bound f =
    (fold_states f + 1) * (f.nodes + 4 * f.statements + 1) + fold_states f * fold_states f * (fold_states f + 1) + 4 * entry_bound f

-- the most steps of merging an entry: a run of the body for each row that the fold looks back, the map, which is applied, and moves of
-- the state
abbrev pub merge_bound : TypedFold → ℕ
merge_bound f = depth_of f * (f.nodes + 4 * f.statements + 1) + fold_states f * fold_states f + 3 * fold_states f

-- A kind of entries is a fold's: its sizes, its step, which is the fold's body, what its entries are folded to, and its bounds on steps.
pub record IsKindOf (f : TypedFold) (sizes : Sizes) (folding : Folding) (opening absorbing : ℕ) : Type 0 where
  pub args : sizes.args ≡ fold_args f
  pub state : sizes.state ≡ fold_states f
  pub entry : sizes.entry ≤ entry_bound f
  pub initial : folding.initial ≡ initial_state f
  pub row_per_epoch : folding.row_per_epoch ≡ per_epoch (class_of f)
  pub step : (state row : List ℕ) → length state ≡ fold_states f → folding.step state row ≡ body f state row
  pub folded : (rows : List ArgRow) → fold folding.step folding.initial rows ≡ folded f (initial_state f) rows
  pub «open» : opening ≤ entry_bound f
  pub absorb : absorbing ≤ absorb_bound f
