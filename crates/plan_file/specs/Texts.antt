-- What a text says, and where it is refused.
use Rattle.std.specs.Prelude.{◌≡◌, ℕ, ◌<◌, ◌≤◌, List, [], ◌∷◌, length, take, drop, Some, slice_get, ◌⊎◌}
use Rattle.query_lang.specs.declared.fault.FaultKind.TheVariants as kinds
use Rattle.query_lang.specs.declared.error.QueryError.{QueryError}
use Rattle.query_lang.specs.declared.error.QueryError.TheVariants as answers
use Rattle.plan_file.specs.{declared.{made.Made.Made, texts.TheConstants.MAX_PLAN}, Lexis.{lines, pieces, bytes_after_lines, start_of_line}}
use Rattle.plan_file.specs.Lines.{nothing, IsLine, IsValidAfter}

-- lines that are valid in sequence, from what was made before them to what is made with them
abbrev pub Make : List (List ℕ) → Made → Made → Type 0
Make [] before after = after ≡ before
Make (line ∷ rest) before after = (next : Made) × IsLine before line next × Make rest next after

-- a valid text makes this: its lines are valid in sequence, an LF ends it, and something is printed
pub record Says (text : List ℕ) (plan : Made) : Type 0 where
  pub size : length text ≤ MAX_PLAN
  pub valid : Make (lines text) nothing plan
  pub ended : bytes_after_lines text ≡ []
  pub printed : 0 < length plan.prints

abbrev pub IsValidText : List ℕ → Type 0
IsValidText text = (plan : Made) × Says text plan

-- the line with this number is the first that is not valid after the lines before it
pub record IsFirstBadLine (text : List ℕ) (i : ℕ) : Type 0 where
  pub before : Made
  pub valid_before : Make (take i (lines text)) nothing before
  pub line : List ℕ
  pub is : slice_get (lines text) i ≡ Some line
  pub bad : IsValidAfter before line → ⊥

-- all lines are valid, but the text ends without LF or before a print
pub record EndsBad (text : List ℕ) : Type 0 where
  pub plan : Made
  pub valid : Make (lines text) nothing plan
  pub bad : (0 < length (bytes_after_lines text)) ⊎ (plan.prints ≡ [])

-- the first `at` bytes of a text are its first `i` lines
pub record IsLineStart (text : List ℕ) (i at : ℕ) : Type 0 where
  pub start : at ≡ start_of_line text i
  pub count : i ≤ length (lines text)
  pub rest : pieces (drop at text) ≡ drop i (pieces text)
  pub within : at ≤ length text

-- all lines are read, and these bytes aren't a line
pub record IsAfterLines (text : List ℕ) (i at : ℕ) : Type 0 where
  pub count : i ≡ length (lines text)
  pub rest : bytes_after_lines text ≡ drop at text

-- the place of BadPlan in a text that isn't too long
abbrev pub IsBadWithin : List ℕ → ℕ → Type 0
IsBadWithin text place =
    ((i : ℕ) × IsFirstBadLine text i × (place ≡ start_of_line text i))
    ⊎ (EndsBad text × (place ≡ length text))

-- the place of BadPlan
abbrev pub IsBadAt : List ℕ → ℕ → Type 0
IsBadAt text place =
    ((MAX_PLAN < length text) × (place ≡ MAX_PLAN))
    ⊎ ((length text ≤ MAX_PLAN) × IsBadWithin text place)

-- the answer for a text that is refused: BadPlan at its place, or out of memory
abbrev pub IsRefused : List ℕ → QueryError → Type 0
IsRefused text (answers.Refused fault) = (fault.kind ≡ kinds.BadPlan) × IsBadAt text fault.span.start
    × (fault.span.end ≡ fault.span.start)
IsRefused text answers.Memory = Unit {0}

-- a text that is refused is not valid, and it is refused at this place alone
abbrev pub IsOnlyAnswer : List ℕ → QueryError → Type 0
IsOnlyAnswer text (answers.Refused fault) = (IsValidText text → ⊥)
    × ((place : ℕ) → IsBadAt text place → place ≡ fault.span.start)
IsOnlyAnswer text answers.Memory = Unit {0}
