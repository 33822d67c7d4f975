-- The walk over a fold's statements with a table of kinds, as code makes it.
use Rattle.std.specs.Prelude.{ℕ, ◌<◌, Bool, true, false, if◌then◌else◌, List, slice_index_or}
use Rattle.query_lang.specs.{declared.fold.Op.Op, Blocks.{Block, End, Set, Fork}}
use Rattle.fold_class.specs.{declared.class.Kind.{Kind, TheVariants.Pure}, Kinds.{Role, Outside}}

-- the kinds of the slots: those of a list, and Pure past its end
abbrev pub kinds_in : List Kind → ℕ → Kind
kinds_in kinds s = slice_index_or kinds s Pure

-- the roles where only reads count
abbrev pub outside : Op → Role
outside op = Outside

-- each assignment goes to a variable below a number
abbrev pub AssignsBelow : ℕ → Block → Type 0
AssignsBelow n End = Unit {0}
AssignsBelow n (Set v e rest) = (v < n) × AssignsBelow n rest
AssignsBelow n (Fork c a b rest) = AssignsBelow n a × AssignsBelow n b × AssignsBelow n rest

-- whether a kind is Other, and the kind that is Other where a test passes and else Pure
abbrev pub is_other : Kind → Bool
is_other Kind.Other = true
is_other _ = false

abbrev pub other_where : Bool → Kind
other_where b = if b then Kind.Other else Pure

-- the flags of the variables: those of a list, and false past its end
abbrev pub flag_in : List Bool → ℕ → Bool
flag_in flags v = slice_index_or flags v false
