-- What the parts of a program have in common, whatever its fold is.
use Rattle.std.specs.Prelude.{◌≡◌, ◌≢◌, ℕ, ◌+◌, ◌<◌, ◌≤◌, true, List, length, slice_index, All}
use Rattle.query_lang.specs.declared.fault.TheConstants.{MAX_ARGS, MAX_STATES}
use Rattle.fold_class.specs.declared.program.FoldProgram.{FoldProgram}

-- each place comes after those before it
abbrev pub IsAscending : List ℕ → Type 0
IsAscending places = (i j : ℕ) → i < j → j < length places → slice_index places i < slice_index places j

pub record IsShaped (p : FoldProgram) : Type 0 where
  pub code_states : p.code.states ≡ length p.layout.initial
  pub code_args : p.code.args ≡ p.layout.args
  pub rows_args : p.rows.code.args ≡ p.layout.args
  pub rows_linear : p.rows.linear ≡ p.layout.linear
  pub rows_history : p.rows.history ≡ p.layout.history
  pub sorts : length p.layout.linear + length p.layout.history ≡ length p.layout.initial
  pub states : length p.layout.initial ≤ MAX_STATES
  pub args : p.layout.args ≤ MAX_ARGS
  pub depth : p.depth ≤ MAX_STATES
  pub linear_inside : All (λ v. v < length p.layout.initial) p.layout.linear
  pub history_inside : All (λ v. v < length p.layout.initial) p.layout.history
  pub linear_ascends : IsAscending p.layout.linear
  pub history_ascends : IsAscending p.layout.history
  pub apart : (i j : ℕ) → i < length p.layout.history → j < length p.layout.linear
      → slice_index p.layout.history i ≢ slice_index p.layout.linear j

-- each row moves all variables, and none is logged
pub record MovesAll (p : FoldProgram) : Type 0 where
  pub moves : p.moves ≡ true
  pub depth : p.depth ≡ 0
  pub alone : length p.layout.history ≡ 0

-- there is one variable, each row moves it, and none is logged
pub record MovesOne (p : FoldProgram) : Type 0 where
  pub moves : p.moves ≡ true
  pub depth : p.depth ≡ 0
  pub one : length p.layout.linear ≡ 1
  pub alone : length p.layout.history ≡ 0
