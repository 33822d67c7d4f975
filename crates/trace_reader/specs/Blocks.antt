-- The first digits of a text.
use Rattle.std.specs.{Prelude.{◌≡◌, ℕ, true, List, take}, Char.is_ascii_digit, List.list_all, Str.Parse.digits_value}

-- the first bytes of a text, this many, are digits, and they are this number
pub record IsFront (text : List ℕ) (count number : ℕ) : Type 0 where
  pub digits : list_all is_ascii_digit (take count text) ≡ true
  pub value : number ≡ digits_value 10 (take count text)
