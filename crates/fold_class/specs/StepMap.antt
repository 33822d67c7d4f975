-- What the rows of a step promise.
use Rattle.std.specs.Prelude.{◌≡◌, ℕ, ◌<◌, true, false, List, length, slice_index}
use Rattle.query_lang.specs.{declared.fold.TypedFold.TypedFold, Words.IsWord, Folds.{body, fold_states, fold_args, IsValidFold}}
use Rattle.fold_code.specs.Machine.{at}
use Rattle.coeff_algebra.specs.{Elements.Elements, Maps.HasWord}
use Rattle.fold_class.specs.{declared.class.Algebra.Algebra, Depth.is_history, Parts.{Fixed, parts, row_shares, row_value}}
use Rattle.fold_class.specs.Step.{rank, dimension, step_rows, share_of}

-- a state and a row of arguments that fit the fold, with x as the words of its linear variables
pub record Fitting (f : TypedFold) (state args : List ℕ) (x : ℕ → ℕ) : Type 0 where
  pub valid : IsValidFold f
  pub state_long : length state ≡ fold_states f
  pub args_long : length args ≡ fold_args f
  pub state_words : (s : ℕ) → IsWord (slice_index state s)
  pub args_words : (s : ℕ) → IsWord (slice_index args s)
  pub linear : (v : ℕ) → v < fold_states f → is_history f v ≡ false → x (rank f v) ≡ slice_index state v

-- the row of each variable gives its word after the body, and some element of it is a word; a history variable is fixed
pub record IsStepOf {C : Type 0} (k : Elements C) (algebra : Algebra) (f : TypedFold) (state args : List ℕ) (x : ℕ
    → ℕ) : Type 0 where
  pub value : (v : ℕ) → v < fold_states f →
      row_value k (dimension f) x (share_of (row_shares k (dimension f))
      (at (parts (row_shares k (dimension f)) algebra) (step_rows k algebra f state args) v)) ≡ slice_index (body f state args) v
  pub has_word : (v : ℕ) → v < fold_states f →
      HasWord k (dimension f) (share_of (row_shares k (dimension f))
      (at (parts (row_shares k (dimension f)) algebra) (step_rows k algebra f state args) v))
  pub history : (v : ℕ) → v < fold_states f → is_history f v ≡ true →
      at (parts (row_shares k (dimension f)) algebra) (step_rows k algebra f state args) v ≡ Fixed (slice_index (body f state args) v)
