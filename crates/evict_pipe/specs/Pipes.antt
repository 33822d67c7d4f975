-- A pipe of records.
use Rattle.std.specs.Prelude.{◌≡◌, ◌≤◌, ℕ, List, length, All}

pub record Pipe : Type 0 where
  pub record_words : ℕ
  pub places : ℕ  -- how many records it has room for
  pub records : List (List ℕ)  -- the oldest first

abbrev pub with_records : Pipe → List (List ℕ) → Pipe
with_records pipe records = record { record_words = pipe.record_words; places = pipe.places; records = records }

-- no more records than places, each of the pipe's number of words
pub record IsSoundPipe (pipe : Pipe) : Type 0 where
  pub few : length pipe.records ≤ pipe.places
  pub words : All (λ words. length words ≡ pipe.record_words) pipe.records
