-- Names, numbered from 0 by first appearance.
use Rattle.std.specs.Prelude.{◌≡◌, ℕ, ◌*◌, ◌%◌, ◌^◌, List, [], ◌∷◌, ◌++◌, Some, bit_xor, fold, map, slice_get, Vec, if◌then◌else◌}
use Rattle.std.specs.{Global.Global, List.{list_any, position_or_len}, Str.bytes_eq}

-- the number of a text: its place among the names, or the next number where it isn't among them
abbrev pub number_in : List (List ℕ) → List ℕ → ℕ
number_in names text = position_or_len (bytes_eq text) names

-- the names with this text, which goes last where it is new
abbrev pub with_name : List (List ℕ) → List ℕ → List (List ℕ)
with_name names text = if list_any (bytes_eq text) names then names else names ++ text ∷ []

-- no text is at two places, so equal numbers are those of equal texts
abbrev pub AreOnce : List (List ℕ) → Type 0
AreOnce names = (i j : ℕ) (text : List ℕ) → slice_get names i ≡ Some text → slice_get names j ≡ Some text → i ≡ j

-- the texts of these vectors of bytes
abbrev pub texts_of : List (Vec ℕ Global) → List (List ℕ)
texts_of vectors = map (λ text. text.items) vectors

-- a word by which most texts differ
unfoldable pub print_of : List ℕ → ℕ
print_of text = fold (λ print byte. (bit_xor print byte * 0x100_0000_01b3) % 2 ^ 64) 0 text

-- each name is there once, and has its word at its number
pub record AreNumbered (names : List (List ℕ)) (prints : List ℕ) : Type 0 where
  pub once : AreOnce names
  pub printed : prints ≡ map print_of names
