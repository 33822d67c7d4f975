-- Where a text of CSV is between two records.
use Rattle.std.specs.Prelude.{◌≡◌, ℕ, ◌≤◌, false, List, [], ◌∷◌, ◌++◌, if◌then◌else◌, length, take}
use Rattle.csv.specs.Machine as csv
use Rattle.csv.specs.{Reading.{default_config, is_bom}, declared.parser.State.State}
use Rattle.csv.specs.declared.parser.State.TheVariants as st
use Rattle.trace_reader.specs.Reading.{records, records_after}
use Rattle.trace_pieces.specs.declared.scan.Place.{Place}
use Rattle.trace_pieces.specs.declared.scan.Place.TheVariants as place

-- the state of the reader of CSV at a place
abbrev pub state_of : Place → State
state_of place.Between = st.StartRecord
state_of place.AfterReturn = st.AfterCr
state_of place.FieldStart = st.StartField
state_of place.InField = st.InField
state_of place.InQuotes = st.InQuoted
state_of place.AfterQuote = st.AfterQuote

abbrev pub next_state : State → ℕ → State
next_state state byte = (csv.step default_config state byte).0

-- the state after a text
abbrev pub state_over : State → List ℕ → State
state_over state [] = state
state_over state (byte ∷ rest) = state_over (next_state state byte) rest

-- a text that begins between two records ends so
abbrev pub EndsBetween : List ℕ → Type 0
EndsBetween text = csv.ends_at_end (state_over st.StartRecord text) ≡ false

-- the records of a text that begins between two records
abbrev pub rows : List ℕ → List (List (List ℕ))
rows text = records_after st.StartRecord text

-- these first bytes of a text end between two records
pub record IsCut (text : List ℕ) (at : ℕ) : Type 0 where
  pub within : at ≤ length text
  pub between : EndsBetween (take at text)

-- the text begins with one record, and more begins between two
pub record IsHead (text : List ℕ) : Type 0 where
  pub header : List (List ℕ)
  pub all : (more : List ℕ) → records (text ++ more) ≡ header ∷ rows more

-- how many bytes the byte order mark of a text has
abbrev pub mark_len : List ℕ → ℕ
mark_len [] = 0
mark_len (a ∷ []) = 0
mark_len (a ∷ b ∷ []) = 0
mark_len (a ∷ b ∷ c ∷ rest) = if is_bom a b c then 3 else 0
