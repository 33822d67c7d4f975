-- What a fold's program is: its class, whether it is a translation, its depth, its code, and for a linear fold the affine map of one step.
use Rattle.std.specs.Prelude.{◌≡◌, ℕ, ◌+◌, ◌*◌, ◌<◌, ◌≤◌, not, if◌then◌else◌, List, length, slice_index}
use Rattle.query_lang.specs.{declared.{fold.TypedFold.TypedFold, typed.Class.TheVariants.Linear}, Words.AreWords}
use Rattle.query_lang.specs.Folds.{body, fold_states, fold_args, initial_state, IsValidFold}
use Rattle.fold_code.specs.Meaning.{IsCodeOf}
use Rattle.coeff_algebra.specs.{Elements.Elements, Maps.{map_apply, table_of, HasWord}, WrappingModel.wrapping_from_words}
use Rattle.coeff_algebra.specs.MaxPlusModel.{max_plus_from_words}
use Rattle.fold_class.specs.declared.{class.Algebra.{Algebra, TheVariants.{Sums, Maxima}}, layout.Layout.Layout}
use Rattle.fold_class.specs.{declared.program.FoldProgram.FoldProgram, Depth.{is_history, IsDepth}, Kinds.{class_of, algebra_of}}
use Rattle.fold_class.specs.{Algebras.{sums, maxima}, Translations.is_translation}
use Rattle.fold_class.specs.Step.{dimension, places, linear_places, history_places, words_at, list_of}
use Rattle.fold_class.specs.Rows.{Rows, Origin, Remembered, Carried, rows_steps, element_size, LeavesRows}

-- a state of words in which the history variables have these words
pub record IsStateWith (f : TypedFold) (history state : List ℕ) : Type 0 where
  pub long : length state ≡ fold_states f
  pub words : AreWords state
  pub same : words_at state (history_places f) ≡ history

-- what a map and a history are after one step from a state: the map takes the linear variables to their words after the body,
-- each row of it has an element that is a word, and the history has its words after the body
pub record IsStepFrom {C : Type 0} (k : Elements C) (from_words : List ℕ
    → C) (size : ℕ) (f : TypedFold) (state args map' history' : List ℕ) : Type 0 where
  pub linear : (i : ℕ) → i < dimension f →
      k.to_word (map_apply k (dimension f) (table_of from_words size (dimension f) map')
      (λ j. k.embed (slice_index (words_at state (linear_places f)) j)) i)
      ≡ slice_index (words_at (body f state args) (linear_places f)) i
  pub has_word : (i : ℕ) → i < dimension f → HasWord k (dimension f) (table_of from_words size (dimension f) map' i)
  pub history : words_at (body f state args) (history_places f) ≡ history'

-- the rows write elements of a semiring: whatever they leave for a history and a row of arguments is one step, from each state with
-- that history
abbrev pub WritesElements : {C : Type 0} → Elements C → (List ℕ → C) → ℕ → TypedFold → Rows → Type 0
WritesElements k from_words size f rows =
    (history args map' history' state : List ℕ) → IsStateWith f history state → length args ≡ fold_args f → AreWords args
    → LeavesRows rows history args map' history' →
    IsStepFrom k from_words size f state args map' history'

-- the same over the elements of an algebra
abbrev pub WritesAlgebra : Algebra → TypedFold → Rows → Type 0
WritesAlgebra Sums = WritesElements sums wrapping_from_words 1
WritesAlgebra Maxima = WritesElements maxima max_plus_from_words 2

-- the rows of a fold, by their meaning and their bound on steps
pub record IsRowsOf (f : TypedFold) (rows : Rows) : Type 0 where
  pub algebra : rows.algebra ≡ algebra_of f
  pub args : rows.code.args ≡ fold_args f
  pub linear : rows.linear ≡ linear_places f
  pub history : rows.history ≡ history_places f
  pub writes : class_of f ≡ Linear → WritesAlgebra (algebra_of f) f rows
  pub steps : rows_steps rows ≤ (fold_states f + 1) * (f.nodes + 4 * f.statements + 1)
      + 2 * element_size (algebra_of f) * (fold_states f + 1) * (fold_states f + 1)

-- the number of each variable among the history or the linear variables
abbrev pub origin_of : TypedFold → ℕ → Origin
origin_of f v = if is_history f v then Remembered (length (places (is_history f) v)) else Carried
    (length (places (λ v. not (is_history f v)) v))

abbrev pub origins_of : TypedFold → List Origin
origins_of f = list_of (fold_states f) (origin_of f)

-- the layout of a fold's variables and words
pub record IsLayoutOf (f : TypedFold) (layout : Layout) : Type 0 where
  pub linear : layout.linear ≡ linear_places f
  pub history : layout.history ≡ history_places f
  pub initial : layout.initial ≡ initial_state f
  pub args : layout.args ≡ fold_args f
  pub nodes : layout.nodes ≡ f.nodes
  pub statements : layout.statements ≡ f.statements

-- the program of a valid fold: its parts are those of the fold, the code and the rows by their meaning and their bounds on steps
pub record IsProgramOf (f : TypedFold) (program : FoldProgram) : Type 0 where
  pub valid : IsValidFold f
  pub class : program.class ≡ class_of f
  pub algebra : program.algebra ≡ algebra_of f
  pub moves : program.moves ≡ is_translation f
  pub depth : IsDepth f program.depth
  pub code : IsCodeOf f program.code
  pub rows : IsRowsOf f program.rows
  pub layout : IsLayoutOf f program.layout

-- it is the program of some valid fold
abbrev pub IsProgram : FoldProgram → Type 0
IsProgram program = ∥ ((f : TypedFold) × IsProgramOf f program) ∥₁
