-- The reading of a text.
use Rattle.std.specs.Prelude.{◌≡◌, ℕ, List, Ok, Err}
use Rattle.query_lang.specs.{Checks.Checked, declared.error.QueryError.TheVariants.Refused}
use Rattle.plan_file.specs.{declared.made.Made.Made, Texts.{IsRefused, Says}}

-- what the lines of a valid text make, or the fault of any other one
abbrev pub IsReadingOf : List ℕ → Checked Made → Type 0
IsReadingOf text (Ok made) = Says text made
IsReadingOf text (Err fault) = IsRefused text (Refused fault)

-- Every text has a reading: it is valid, or it is refused at some place. So what is said for each reading of a text is said of the text.
abbrev pub EveryTextIsRead : Type 0
EveryTextIsRead = (text : List ℕ) → (found : Checked Made) × IsReadingOf text found

-- A text has one reading alone.
abbrev pub TextsAreReadOnce : Type 0
TextsAreReadOnce = (text : List ℕ) (a b : Checked Made) → IsReadingOf text a → IsReadingOf text b → a ≡ b
