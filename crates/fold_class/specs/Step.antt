-- The affine map of one run of a fold's body on its linear variables.
use Rattle.std.specs.Prelude.{ℕ, zero, suc, ◌+◌, Bool, not, ◌==◌, if◌then◌else◌, List, [], ◌∷◌, ◌++◌, map, slice_index}
use Rattle.query_lang.specs.{declared.fold.TypedFold.TypedFold, Folds.{fold_states, fold_block}}
use Rattle.fold_code.specs.Tree.{after_in}
use Rattle.coeff_algebra.specs.Elements.{Elements}
use Rattle.fold_class.specs.{declared.class.Algebra.Algebra, Depth.is_history}
use Rattle.fold_class.specs.Parts.{Part, Fixed, Share, Lost, Shares, parts, row_shares, column_shares}

-- the first n values of a table
abbrev pub list_of : {A : Type 0} → ℕ → (ℕ → A) → List A
list_of zero f = []
list_of (suc n) f = list_of n f ++ f n ∷ []

-- how many linear variables stand before v; of all variables, their number
abbrev pub rank : TypedFold → ℕ → ℕ
rank f zero = 0
rank f (suc v) = rank f v + (if is_history f v then 0 else 1)

abbrev pub dimension : TypedFold → ℕ
dimension f = rank f (fold_states f)

-- the places of the linear variables, and of the history variables, in the order of declaration
abbrev pub places : (ℕ → Bool) → ℕ → List ℕ
places p zero = []
places p (suc n) = if p n then places p n ++ n ∷ [] else places p n

abbrev pub linear_places : TypedFold → List ℕ
linear_places f = places (λ v. not (is_history f v)) (fold_states f)

abbrev pub history_places : TypedFold → List ℕ
history_places f = places (is_history f) (fold_states f)

-- the words of a state at some places
abbrev pub words_at : List ℕ → List ℕ → List ℕ
words_at state places = map (slice_index state) places

module _ {C : Type 0} (k : Elements C) (algebra : Algebra) (f : TypedFold) where
  -- at the start a history variable is its word, and a linear variable its own share
  abbrev pub first_row : List ℕ → ℕ → Part (ℕ → C)
  first_row state v = if is_history f v then Fixed (slice_index state v) else Share
      (λ column. if column == rank f v then k.one else k.zero)

  -- the rows of the variables after one run of the body
  abbrev pub step_rows : List ℕ → List ℕ → List (Part (ℕ → C))
  step_rows state args =
      after_in (parts (row_shares k (dimension f)) algebra) (Fixed 1) (fold_block f) (map (λ w. Fixed w) args)
      (list_of (fold_states f) (first_row state))

  -- one column of them
  abbrev pub first_column : ℕ → List ℕ → ℕ → Part C
  first_column column state v = if is_history f v then Fixed (slice_index state v) else Share (if column == rank f v then k.one else k.zero)

  abbrev pub step_column : ℕ → List ℕ → List ℕ → List (Part C)
  step_column column state args =
      after_in (parts (column_shares k (dimension f) column) algebra) (Fixed 1) (fold_block f) (map (λ w. Fixed w) args)
      (list_of (fold_states f) (first_column column state))

-- a part as a share
abbrev pub share_of : {A : Type 0} → Shares A → Part A → A
share_of sh (Fixed w) = sh.lift w
share_of sh (Share e) = e
share_of sh Lost = sh.lift 0
