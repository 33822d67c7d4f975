-- What the meanings of a kind of entry are made of.
use Rattle.std.specs.Prelude.{◌≡◌, ℕ, true, List}
use Rattle.epoch_model.specs.{Keys.ArgRow, Tables.Folding}

-- numbers of words
pub record Sizes : Type 0 where
  pub args : ℕ  -- of an argument row
  pub entry : ℕ  -- of an entry
  pub state : ℕ  -- of a state
  pub scratch : ℕ  -- of the room that absorbing and merging work in

-- An entry is merged into any state; where each epoch has a separate row, only into the initial one.
abbrev pub MayTake : Folding → List ℕ → Type 0
MayTake f state = f.row_per_epoch ≡ true → state ≡ f.initial

-- what a kind of entries is: its sizes, what its entries are folded to, which rows they represent, and its bounds on steps
pub record Meaning : Type 1 where
  pub sizes : Sizes
  pub folding : Folding
  pub stands : List ℕ → List ArgRow → Type 0
  pub open_bound : ℕ
  pub absorb_bound : ℕ
  pub merge_bound : ℕ
