-- What a sink has taken of a text of which the last bytes wait.
use Rattle.std.specs.{Prelude.{◌≡◌, ℕ, ◌++◌, List, Option}, Io.KnownBytes.Appends}

-- The sink has taken all of the text but the bytes that wait.
pub record TakesAllBut (old new : Option (List ℕ)) (waiting text : List ℕ) : Type 0 where
  pub written : List ℕ
  pub taken : Appends old new written
  pub whole : text ≡ written ++ waiting
