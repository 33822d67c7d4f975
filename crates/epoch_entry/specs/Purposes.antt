-- The kind of a fold's entries by what a pipeline's entries are for.
use Rattle.std.specs.Prelude.{◌≡◌, ℕ, ◌+◌, ◌*◌, ◌≤◌}
use Rattle.query_lang.specs.declared.{fold.TypedFold.TypedFold, typed.Class.{Class, TheVariants.{Linear, Other}}}
use Rattle.query_lang.specs.{Folds.{IsValidFold, fold_args}, declared.fault.TheConstants.MAX_KEYS}
use Rattle.epoch_model.specs.Tables.{Folding}
use Rattle.fold_class.specs.Kinds.{class_of}
use Rattle.epoch_entry.specs.{declared.purpose.Entries.{Entries, TheVariants.{Folds, Bounds}}, Kinds.Sizes}
use Rattle.epoch_entry.specs.{Foldings.{IsKindOf, absorb_bound, entry_bound, per_epoch}, Bounds.IsBoundsKindOf}

-- where bounds are asked for, a linear fold has its own entries, since they lose nothing, and any other fold those of its bounds
abbrev pub IsBoundingKind : Class → TypedFold → Sizes → Folding → ℕ → ℕ → Type 0
IsBoundingKind Linear = IsKindOf
IsBoundingKind Other = IsBoundsKindOf

-- A kind of entries is a fold's for a purpose: the fold's own for its value, and a bounding one for bounds.
abbrev pub IsKindFor : Entries → TypedFold → Sizes → Folding → ℕ → ℕ → Type 0
IsKindFor Folds f sizes folding opening absorbing = IsKindOf f sizes folding opening absorbing
IsKindFor Bounds f sizes folding opening absorbing = IsBoundingKind (class_of f) f sizes folding opening absorbing

-- how many runs of a fold an entry is, at most
abbrev pub runs_of : Entries → ℕ
runs_of Folds = 1
runs_of Bounds = 3

-- what is the same of a fold's entries for every purpose: the words of an argument row and whether each epoch has a row; and their
-- bounds, by this many runs
pub record SuitsFold (runs : ℕ) (f : TypedFold) (sizes : Sizes) (folding : Folding) (opening absorbing : ℕ) : Type 0 where
  pub args : sizes.args ≡ fold_args f
  pub row_per_epoch : folding.row_per_epoch ≡ per_epoch (class_of f)
  pub entry : sizes.entry ≤ runs * entry_bound f
  pub «open» : opening ≤ runs * entry_bound f
  pub absorb : absorbing ≤ runs * absorb_bound f

abbrev pub EntriesSuitFolds : Type 0
EntriesSuitFolds = (entries : Entries) (f : TypedFold) (sizes : Sizes) (folding : Folding) (opening absorbing : ℕ)
    → IsKindFor entries f sizes folding opening absorbing → SuitsFold (runs_of entries) f sizes folding opening absorbing

-- an entry with its key of at most 8 words has at most 274 words
abbrev pub EntriesAreSmall : Type 0
EntriesAreSmall = (entries : Entries) (f : TypedFold) (sizes : Sizes) (folding : Folding) (opening absorbing key : ℕ)
    → IsValidFold f → IsKindFor entries f sizes folding opening absorbing → key ≤ MAX_KEYS → key + sizes.entry ≤ 274
