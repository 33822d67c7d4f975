-- What reading did.
use Rattle.std.specs.{Prelude.{◌≡◌, ℕ, ◌≤◌, Bool, true, false, List, ◌++◌, length, Option}, Io.KnownBytes.{Consumes, IsAtEnd}}

-- the bytes go on with those that the input no longer has
pub record Goes (left_before left_after : Option (List ℕ)) (before after : List ℕ) : Type 0 where
  pub more : List ℕ
  pub bytes : after ≡ before ++ more
  pub consumed : Consumes left_before left_after more

-- The bytes go on up to this many, or to the end of the input.
pub record Fills (target : ℕ) (left_before left_after : Option (List ℕ)) (before after : List ℕ) (ended : Bool) : Type 0 where
  pub goes : Goes left_before left_after before after
  pub at_end : ended ≡ true → IsAtEnd left_after
  pub full : ended ≡ false → target ≤ length after
