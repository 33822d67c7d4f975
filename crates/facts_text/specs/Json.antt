-- What is a JSON text.
use Rattle.std.specs.Prelude.{◌≡◌, ℕ, List}
use Rattle.json.specs.{Print.print, Lex.tokens}
use Rattle.serde_json.specs.{Data.Data, Written.IsInOrder}

-- The text is one JSON value, with no blanks between its tokens.
pub record IsJson (text : List ℕ) : Type 0 where
  pub value : Data
  pub in_order : IsInOrder text value
  pub compact : text ≡ print (tokens text)
