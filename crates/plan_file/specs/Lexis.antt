-- Lines, tokens, numbers, operands and names.
use Rattle.std.specs.Prelude.{ℕ, ◌+◌, Bool, true, false, not, ◌==◌, ◌&&◌, if◌then◌else◌, List, [], ◌∷◌, length, take, sum_by, codes, Option}
use Rattle.std.specs.{Prelude.{Some, None, is_none}, List.{list_all, slice_split}, Str.Parse.digits_value}
use Rattle.query_lang.specs.{Lexis.{below_limit, is_digit, is_word_byte, reserved}, declared.fold.Op.Op}
use Rattle.query_lang.specs.declared.fold.Op.TheVariants as ops
use Rattle.std.specs.Str.{bytes_eq}

-- one byte is another
abbrev pub is_byte : ℕ → ℕ → Bool
is_byte byte one = one == byte

abbrev pub is_line_feed : ℕ → Bool
is_line_feed byte = byte == 10

abbrev pub is_space : ℕ → Bool
is_space byte = byte == 32

-- what lies between the LFs of a text, before the first one and after the last one
abbrev pub pieces : List ℕ → List (List ℕ)
pieces text = slice_split is_line_feed text

abbrev pub all_but_last : List (List ℕ) → List (List ℕ)
all_but_last [] = []
all_but_last (one ∷ []) = []
all_but_last (one ∷ next ∷ rest) = one ∷ all_but_last (next ∷ rest)

abbrev pub last_of : List (List ℕ) → List ℕ
last_of [] = []
last_of (one ∷ []) = one
last_of (one ∷ next ∷ rest) = last_of (next ∷ rest)

-- the lines of a text, each without the LF that ends it
abbrev pub lines : List ℕ → List (List ℕ)
lines text = all_but_last (pieces text)

-- the bytes after the last LF, which are no line
abbrev pub bytes_after_lines : List ℕ → List ℕ
bytes_after_lines text = last_of (pieces text)

-- the first byte of a line: after the lines before it, each with its LF
abbrev pub start_of_line : List ℕ → ℕ → ℕ
start_of_line text i = sum_by (λ line. length line + 1) (take i (lines text))

-- the tokens of a line: one space separates two of them
abbrev pub tokens : List ℕ → List (List ℕ)
tokens line = slice_split is_space line

-- the tokens of the rest after a space, if there was one
abbrev pub tokens_left : Bool → List ℕ → List (List ℕ)
tokens_left true rest = tokens rest
tokens_left false rest = []

-- the first digit isn't 0, except in the number 0 itself
abbrev pub is_first_digit : ℕ → List ℕ → Bool
is_first_digit digit [] = true
is_first_digit digit (next ∷ rest) = not (digit == 48)

-- a decimal number below 2^64 without leading zeros
abbrev pub number : List ℕ → Option ℕ
number [] = None
number (digit ∷ rest) =
    if list_all is_digit (digit ∷ rest) && is_first_digit digit rest then below_limit (digits_value 10 (digit ∷ rest)) else None

-- the number after a first byte
abbrev pub number_after : ℕ → List ℕ → Option ℕ
number_after byte [] = None
number_after byte (first ∷ rest) = if first == byte then number rest else None

-- a number that is written out, `#N`
abbrev pub literal : List ℕ → Option ℕ
literal token = number_after 35 token

-- a state variable of a body, `sI`, and an argument, `aI`
abbrev pub state_number : List ℕ → Option ℕ
state_number token = number_after 115 token

abbrev pub argument_number : List ℕ → Option ℕ
argument_number token = number_after 97 token

-- a name: letters, digits and underscores, with no digit first, and no reserved word
abbrev pub is_name : List ℕ → Bool
is_name [] = false
is_name (first ∷ rest) =
    list_all is_word_byte (first ∷ rest) && (not (is_digit first) && is_none (reserved (first ∷ rest)))

-- the function whose name the token is, and the other one where it is none of these names
abbrev pub named_among : List (List ℕ × Op) → Option Op → List ℕ → Option Op
named_among [] other token = other
named_among ((name, op) ∷ rest) other token = if bytes_eq token name then Some op else named_among rest other token

-- functions of two operands by their names: those that are neither of arithmetic nor comparisons
unfoldable pub other_named : List ℕ → Option Op
other_named token =
    named_among ((codes "both", ops.Both) ∷ (codes "either", ops.Either) ∷ (codes "max", ops.Max) ∷ (codes "min", ops.Min)
    ∷ (codes "sadd", ops.Sadd) ∷ (codes "decay", ops.Decay) ∷ []) None token

-- those that compare, and the ones before
unfoldable pub comparison_named : List ℕ → Option Op
comparison_named token =
    named_among ((codes "eq", ops.Eq) ∷ (codes "ne", ops.Ne) ∷ (codes "lt", ops.Lt) ∷ (codes "le", ops.Le) ∷ (codes "gt", ops.Gt)
    ∷ (codes "ge", ops.Ge) ∷ []) (other_named token) token

-- all functions of two operands
unfoldable pub function_named : List ℕ → Option Op
function_named token =
    named_among ((codes "mul", ops.Mul) ∷ (codes "div", ops.Div) ∷ (codes "rem", ops.Rem) ∷ (codes "add", ops.Add)
    ∷ (codes "sub", ops.Sub) ∷ (codes "shl", ops.Shl) ∷ (codes "shr", ops.Shr) ∷ (codes "and", ops.And)
    ∷ (codes "xor", ops.Xor) ∷ (codes "or", ops.Or) ∷ []) (comparison_named token) token
