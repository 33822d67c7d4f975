-- Folds that move each linear variable by what the history and the arguments alone give.
use Rattle.std.specs.Prelude.{◌≡◌, ℕ, ◌+◌, ◌%◌, ◌^◌, ◌<◌, max, Bool, true, false, ◌&&◌, ◌||◌, ◌==◌, nat_lt, if◌then◌else◌, List, length}
use Rattle.std.specs.Prelude.{slice_index}
use Rattle.query_lang.specs.{declared.fold.Op.{Op, TheVariants.{Add, Sub, Max}}, Terms.{Term, Literal, Read, Negation, Operation}}
use Rattle.query_lang.specs.{declared.fold.TypedFold.TypedFold, Blocks.Block, Folds.{fold_states, fold_block, IsValidFold}}
use Rattle.fold_code.specs.Checks.{names_known, all_pass}
use Rattle.fold_class.specs.{declared.class.Algebra.{Algebra, TheVariants.{Sums, Maxima}}, Depth.is_history, Kinds.algebra_of}

-- a word moved by another: their sum modulo 2^64, or the greater
abbrev pub translated : Algebra → ℕ → ℕ → ℕ
translated Sums x b = (x + b) % 2 ^ 64
translated Maxima x b = max x b

-- an operator that moves its left operand by its right one, and one that moves its right operand by its left one
abbrev pub moves_left : Algebra → Op → Bool
moves_left Sums Add = true
moves_left Sums Sub = true
moves_left Maxima Max = true
moves_left _ _ = false

abbrev pub moves_right : Algebra → Op → Bool
moves_right Sums Add = true
moves_right Maxima Max = true
moves_right _ _ = false

module _ (algebra : Algebra) (states : ℕ) (known : ℕ → Bool) where
  -- whether an expression is the variable, moved by what names known variables and arguments alone
  abbrev pub is_move : ℕ → Term → Bool
  is_move v (Literal n) = false
  is_move v (Read s) = s == v
  is_move v (Negation e) = false
  is_move v (Operation op a b) =
      (moves_left algebra op && (is_move v a && names_known states known b)) ||
      (moves_right algebra op && (names_known states known a && is_move v b))

  -- an assignment gives a known variable a known value, or moves another one
  abbrev pub keeps_moves : ℕ → Term → Bool
  keeps_moves v e = if known v then names_known states known e else is_move v e

  -- whether each assignment does, under conditions that are known; `free` says so of those around the block
  abbrev pub is_moving : Bool → Block → Bool
  is_moving free b = all_pass states known keeps_moves free b

-- whether a number is that of a history variable
abbrev pub is_remembered : TypedFold → ℕ → Bool
is_remembered f v = nat_lt v (fold_states f) && is_history f v

-- whether a fold is a translation by the sums, or by the maxima, of an algebra: its history variables are given what history and
-- arguments are, and its linear variables are moved by that
abbrev pub is_translation_by : Algebra → TypedFold → Bool
is_translation_by algebra f = is_moving algebra (fold_states f) (is_remembered f) true (fold_block f)

-- whether it is one by its own algebra
abbrev pub is_translation : TypedFold → Bool
is_translation f = is_translation_by (algebra_of f) f

-- two states have the same history
abbrev pub SameHistory : TypedFold → List ℕ → List ℕ → Type 0
SameHistory f xs ys = (v : ℕ) → v < fold_states f → is_history f v ≡ true → slice_index xs v ≡ slice_index ys v

-- each linear variable of the second state is a word of a table, moved by that variable of the first state
abbrev pub AreMoved : Algebra → TypedFold → (ℕ → ℕ) → List ℕ → List ℕ → Type 0
AreMoved algebra f table xs ys =
    (v : ℕ) → v < fold_states f → is_history f v ≡ false → slice_index ys v ≡ translated algebra (table v) (slice_index xs v)

-- two states of a translation with the same history
pub record AreAlikeStates (algebra : Algebra) (f : TypedFold) (xs ys : List ℕ) : Type 0 where
  pub valid : IsValidFold f
  pub translates : is_translation_by algebra f ≡ true
  pub first_long : length xs ≡ fold_states f
  pub second_long : length ys ≡ fold_states f
  pub same : SameHistory f xs ys

-- each linear variable of a state is 0
abbrev pub HasZeros : TypedFold → List ℕ → Type 0
HasZeros f xs = (v : ℕ) → v < fold_states f → is_history f v ≡ false → slice_index xs v ≡ 0
