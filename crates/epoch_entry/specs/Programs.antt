-- What a fold's entries are, whatever they are for.
use Rattle.std.specs.Prelude.{ℕ, List}
use Rattle.coeff_algebra.specs.{Elements.Elements, WrappingModel.{wrapping_elements, wrapping_from_words}}
use Rattle.coeff_algebra.specs.MaxPlusModel.{max_plus_elements, max_plus_from_words}
use Rattle.epoch_model.specs.{Keys.ArgRow, Tables.Folding}
use Rattle.fold_class.specs.declared.program.FoldProgram.{FoldProgram}
use Rattle.epoch_entry.specs.{declared.any.AnyEpochs.{AnyEpochs, TheVariants.{Linear, Maxima, Other, Bounds}}, Kinds.{Meaning, Sizes}}
use Rattle.epoch_entry.specs.Entries.{linear_sizes, linear_folding, LinearStands, linear_open, linear_absorb, linear_merge}
use Rattle.epoch_entry.specs.Entries.{other_sizes, other_folding, OtherStands, other_open, other_absorb, other_merge}
use Rattle.epoch_entry.specs.Bounds.{bounds_sizes, bounds_folding, BoundsStand, bounds_open, bounds_absorb, bounds_merge}

-- the program by which such entries take a row
abbrev pub program_in : AnyEpochs → FoldProgram
program_in (Linear kind) = kind.program
program_in (Maxima kind) = kind.program
program_in (Other kind) = kind.program
program_in (Bounds kind) = kind.program

abbrev pub meaning : Sizes → Folding → (List ℕ → List ArgRow → Type 0) → ℕ → ℕ → ℕ → Meaning
meaning sizes folding stands opening absorbing merging =
    record { sizes = sizes; folding = folding; stands = stands; open_bound = opening; absorb_bound = absorbing; merge_bound = merging }

-- of a linear fold, with elements of this many words
abbrev pub linear_meaning : {C : Type 0} → Elements C → (List ℕ → C) → ℕ → FoldProgram → Meaning
linear_meaning k from_words size p =
    meaning (linear_sizes size p) (linear_folding p) (LinearStands k from_words size p) (linear_open size p) (linear_absorb size p)
    (linear_merge p)

-- what such entries are
abbrev pub meaning_in : AnyEpochs → Meaning
meaning_in (Linear kind) = linear_meaning wrapping_elements wrapping_from_words 1 kind.program
meaning_in (Maxima kind) = linear_meaning max_plus_elements max_plus_from_words 2 kind.program
meaning_in (Other kind) =
    let p = kind.program in
    meaning (other_sizes p) (other_folding p) (OtherStands p) (other_open p) (other_absorb p) (other_merge p)
meaning_in (Bounds kind) =
    let p = kind.program in
    meaning (bounds_sizes p) (bounds_folding p) (BoundsStand p) (bounds_open p) (bounds_absorb p) (bounds_merge p)
