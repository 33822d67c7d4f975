-- The rows of one step of a fold, as code computes them: one run for each column, over the parts of the variables.
use Rattle.std.specs.Prelude.{◌≡◌, ℕ, ◌+◌, ◌*◌, ◌<◌, ◌≤◌, ◌==◌, if◌then◌else◌, List, [], map, length, slice_index, All}
use Rattle.query_lang.specs.declared.fault.TheConstants.{MAX_STATES}
use Rattle.fold_code.specs.{Machine.{run_code, at, steps_of}, Meaning.Code}
use Rattle.coeff_algebra.specs.{Elements.Elements, Maps.stored_entry, WrappingModel.wrapping_words, MaxPlusModel.max_plus_words}
use Rattle.fold_class.specs.declared.class.Algebra.{Algebra, TheVariants.{Sums, Maxima}}
pub use Rattle.fold_class.specs.declared.origin.Origin.{Origin}
pub use Rattle.fold_class.specs.declared.origin.Origin.TheVariants.{Remembered, Carried}
use Rattle.fold_class.specs.{Parts.{Part, Fixed, Share, parts, column_shares}, Algebras.{sums, maxima}, Step.share_of}

-- the rows of a fold, as their contracts see them: the fold's code, where each variable's part comes from, and the places of the
-- linear and of the history variables
pub record Rows : Type 0 where
  pub code : Code
  pub algebra : Algebra
  pub origins : List Origin
  pub linear : List ℕ
  pub history : List ℕ

abbrev pub rows_from : Code → Algebra → List Origin → List ℕ → List ℕ → Rows
rows_from code algebra origins linear history =
    record { code = code; algebra = algebra; origins = origins; linear = linear; history = history }

-- the words of an element
abbrev pub element_size : Algebra → ℕ
element_size Sums = 1
element_size Maxima = 2

-- how many linear variables there are
abbrev pub rows_dimension : Rows → ℕ
rows_dimension rows = length rows.linear

-- the words of the map, and those that a run needs beside it
abbrev pub rows_words : Rows → ℕ
rows_words rows = rows_dimension rows * (rows_dimension rows + 1) * element_size rows.algebra

abbrev pub rows_scratch : Rows → ℕ
rows_scratch rows = (length rows.origins + length rows.code.instrs) * 3

-- the steps of a run with elements of this many words: each column begins with the parts of the variables, runs the code
-- and writes one element for each row; in the end the history is written
abbrev pub steps_with : ℕ → Rows → ℕ
steps_with size rows =
    let d = rows_dimension rows in
    (d + 1) * (length rows.origins + steps_of rows.code.instrs + d * size) + length rows.history

abbrev pub rows_steps : Rows → ℕ
rows_steps rows = steps_with (element_size rows.algebra) rows

module _ {C : Type 0} (k : Elements C) where
  -- the part of a variable at the start of a column: a history variable is its word, and a linear one its own share
  abbrev pub first_part : ℕ → List ℕ → Origin → Part C
  first_part column history (Remembered i) = Fixed (slice_index history i)
  first_part column history (Carried i) = Share (if column == i then k.one else k.zero)

  -- the parts of the variables at the end of a column
  abbrev pub column_after : Rows → ℕ → List ℕ → List ℕ → List (Part C)
  column_after rows column history args =
      run_code (parts (column_shares k (rows_dimension rows) column) rows.algebra) rows.code.instrs (map (λ w. Fixed w) args)
      (map (first_part column history) rows.origins) []

  -- the element of the map in this row and column
  abbrev pub entry_of : Rows → List ℕ → List ℕ → ℕ → ℕ → C
  entry_of rows history args i column =
      let shares = column_shares k (rows_dimension rows) column in
      share_of shares (at (parts shares rows.algebra) (column_after rows column history args) (slice_index rows.linear i))

-- the word of a part that is fixed
abbrev pub fixed_word : {A : Type 0} → Part A → ℕ
fixed_word (Fixed w) = w
fixed_word _ = 0

-- the map's words are those of its elements, and the history's words are those that the last column ends with
pub record Leaves {C : Type 0} (k : Elements C) (words : C
    → List ℕ) (size : ℕ) (rows : Rows) (history args map' history' : List ℕ) : Type 0 where
  pub entries : (i c : ℕ) → i < rows_dimension rows → c ≤ rows_dimension rows →
      stored_entry size (rows_dimension rows) map' i c ≡ words (entry_of k rows history args i c)
  pub long : length history' ≡ length rows.history
  pub kept : (i : ℕ) → i < length rows.history →
      slice_index history' i ≡ fixed_word
      (at (parts (column_shares k (rows_dimension rows) (rows_dimension rows)) rows.algebra)
      (column_after k rows (rows_dimension rows) history args) (slice_index rows.history i))

-- the same over the algebra of the rows
abbrev pub leaves_in : Algebra → Rows → List ℕ → List ℕ → List ℕ → List ℕ → Type 0
leaves_in Sums = Leaves sums wrapping_words 1
leaves_in Maxima = Leaves maxima max_plus_words 2

abbrev pub LeavesRows : Rows → List ℕ → List ℕ → List ℕ → List ℕ → Type 0
LeavesRows rows = leaves_in rows.algebra rows

-- a variable's part comes from a word of the history that is there
abbrev pub IsWithin : ℕ → Origin → Type 0
IsWithin n (Remembered i) = i < n
IsWithin n (Carried i) = Unit {0}

-- each variable has an origin, and each place is that of a variable
pub record AreSoundRows (rows : Rows) : Type 0 where
  pub each : length rows.origins ≡ rows.code.states
  pub within : All (IsWithin (length rows.history)) rows.origins
  pub linear : All (λ v. v < rows.code.states) rows.linear
  pub history : All (λ v. v < rows.code.states) rows.history
  pub few : length rows.linear ≤ MAX_STATES
  pub short : rows_scratch rows ≤ 65536
