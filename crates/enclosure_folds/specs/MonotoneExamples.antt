-- Small folds, computed.
use Rattle.std.specs.Prelude.{◌≡◌, ℕ, Bool, List, [], ◌∷◌}
use Rattle.query_lang.specs.declared.fold.{Op.TheVariants.{Add, Shl, Gt, Max, Min, Sadd, Decay}, TypedFold.TypedFold}
use Rattle.query_lang.specs.{Terms.{Literal, Read, Operation}, Blocks.{Block, End, Set, Fork}, Folds.{fold_states, fold_block, folded}}
use Rattle.enclosure_folds.specs.Kinds.{is_monotone}
use Rattle.epoch_entry.specs.Bounds.{least_state, greatest_state}

-- a fold of this many variables with these statements
abbrev pub HasBody : TypedFold → ℕ → Block → Type 0
HasBody f states block = (fold_states f ≡ states) × (fold_block f ≡ block)

abbrev pub IsFound : ℕ → Block → Bool → Type 0
IsFound states block found = (f : TypedFold) → HasBody f states block → is_monotone f ≡ found

-- e = sadd(decay(e, 1), a)
abbrev pub decayed_sum : Block
decayed_sum = Set 0 (Operation Sadd (Operation Decay (Read 0) (Literal 1)) (Read 1)) End

-- m = min(max(m, a), 10)
abbrev pub clamped : Block
clamped = Set 0 (Operation Min (Operation Max (Read 0) (Read 1)) (Literal 10)) End

-- e = decay(e, 3) + a: the sum may wrap
abbrev pub wrapping_sum : Block
wrapping_sum = Set 0 (Operation Add (Operation Decay (Read 0) (Literal 3)) (Read 1)) End

-- m = m << 1
abbrev pub shifted_left : Block
shifted_left = Set 0 (Operation Shl (Read 0) (Literal 1)) End

-- if a > 5 { m = max(m, a); } else { m = 0; }
abbrev pub choice_by_argument : Block
choice_by_argument = Fork (Operation Gt (Read 1) (Literal 5)) (Set 0 (Operation Max (Read 0) (Read 1)) End) (Set 0 (Literal 0) End) End

-- if m > 5 { n = 1; }, of two variables
abbrev pub choice_by_state : Block
choice_by_state = Fork (Operation Gt (Read 0) (Literal 5)) (Set 1 (Literal 1) End) End End

-- m = m + a; m = a
abbrev pub overwritten : Block
overwritten = Set 0 (Operation Add (Read 0) (Read 1)) (Set 0 (Read 1) End)

-- the least and the greatest state after the last row of a key
abbrev pub AreBounds : Block → List ℕ → List ℕ → List ℕ → Type 0
AreBounds block row low high = (f : TypedFold) → HasBody f 1 block → (folded f (least_state f) (row ∷ []) ≡ low)
    × (folded f (greatest_state f) (row ∷ []) ≡ high)
