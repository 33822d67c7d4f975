-- What an entry of a fold's epoch represents.
use Rattle.std.specs.Prelude.{◌≡◌, ℕ, ◌<◌, ◌≤◌, List, length, take, slice_index}
use Rattle.query_lang.specs.{declared.fold.TypedFold.TypedFold, Words.AreWords, Folds.{folded, fold_states, initial_state}}
use Rattle.coeff_algebra.specs.{Elements.{Elements, IsWordOf}, Maps.map_apply}
use Rattle.fold_class.specs.Step.{dimension, linear_places, history_places, words_at}

-- an entry of a linear fold, as a log, the history's words and a map by row and column
pub record LinearEntry (C : Type 0) : Type 0 where
  pub log : List (List ℕ)
  pub history : List ℕ
  pub table : ℕ → ℕ → C

-- it represents a list of argument rows, where the fold has depth k
pub record LinearStandsFor {C : Type 0} (e : Elements C) (f : TypedFold) (k : ℕ) (entry : LinearEntry C)
    (rows : List (List ℕ)) : Type 0 where
  pub logged : entry.log ≡ take k rows
  pub history : entry.history ≡ words_at (folded f (initial_state f) rows) (history_places f)
  pub has_word : (i : ℕ) → i < dimension f → (j : ℕ) × (j ≤ dimension f) × IsWordOf e (entry.table i j)
  pub carries : (state : List ℕ) → length state ≡ fold_states f → AreWords state → (i : ℕ) → i < dimension f →
      e.to_word (map_apply e (dimension f) entry.table
      (λ j. e.embed (slice_index (words_at (folded f state (take k rows)) (linear_places f)) j)) i)
      ≡ slice_index (words_at (folded f state rows) (linear_places f)) i

-- an entry of any other fold is its state
abbrev pub OtherStandsFor : TypedFold → List ℕ → List (List ℕ) → Type 0
OtherStandsFor f entry rows = entry ≡ folded f (initial_state f) rows
