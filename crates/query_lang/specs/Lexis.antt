-- How a text is cut into tokens.
use Rattle.std.specs.Prelude.{ℕ, zero, suc, ◌+◌, ◌^◌, ◌<◌, ◌≤◌, Bool, true, false, List, [], ◌∷◌, length, take, drop, codes, Option, Some}
use Rattle.std.specs.{Prelude.{None, Result, Ok, Err, nat_eq, nat_lt, if◌then◌else◌, ◌&&◌, ◌||◌}, List.prefix_len, Str.bytes_eq}
use Rattle.std.specs.Str.Parse.{digits_value}
use Rattle.query_lang.specs.declared.token.Word.{Word}
use Rattle.query_lang.specs.declared.token.Word.TheVariants as words
use Rattle.query_lang.specs.declared.token.Mark.{Mark}
use Rattle.query_lang.specs.declared.token.Mark.TheVariants as marks
use Rattle.query_lang.specs.declared.token.TokenKind.{TokenKind}
use Rattle.query_lang.specs.declared.token.TokenKind.TheVariants as kinds
use Rattle.query_lang.specs.declared.{token.Token.Token, fault.FaultKind.{FaultKind, TheVariants.{BadByte, NumberTooLarge}}}
use Rattle.query_lang.specs.{declared.{fault.QueryFault.QueryFault, token.Piece.Piece}, Names.{number_in, with_name}}
use Rattle.query_lang.specs.declared.token.Piece.TheVariants as pieces

abbrev pub is_in : ℕ → ℕ → ℕ → Bool
is_in low high b = nat_lt b (high + 1) && (if nat_lt b low then false else true)

abbrev pub is_digit : ℕ → Bool
is_digit b = is_in 48 57 b

-- letters, digits and the underscore
abbrev pub is_word_byte : ℕ → Bool
is_word_byte b = is_digit b || (is_in 65 90 b || (is_in 97 122 b || nat_eq b 95))

-- space, tab, LF and CR
abbrev pub is_blank : ℕ → Bool
is_blank b = nat_eq b 32 || (nat_eq b 9 || (nat_eq b 10 || nat_eq b 13))

abbrev pub is_not_line_feed : ℕ → Bool
is_not_line_feed b = if nat_eq b 10 then false else true

-- a mark of one byte
abbrev pub one_mark : ℕ → Option Mark
one_mark b =
    if nat_eq b 40 then Some marks.OpenParen else
    if nat_eq b 41 then Some marks.CloseParen else
    if nat_eq b 91 then Some marks.OpenBracket else
    if nat_eq b 93 then Some marks.CloseBracket else
    if nat_eq b 123 then Some marks.OpenBrace else
    if nat_eq b 125 then Some marks.CloseBrace else
    if nat_eq b 44 then Some marks.Comma else
    if nat_eq b 59 then Some marks.Semicolon else
    if nat_eq b 61 then Some marks.Assign else
    if nat_eq b 60 then Some marks.Less else
    if nat_eq b 62 then Some marks.Greater else
    if nat_eq b 43 then Some marks.Plus else
    if nat_eq b 45 then Some marks.Minus else
    if nat_eq b 42 then Some marks.Times else
    if nat_eq b 47 then Some marks.Slash else
    if nat_eq b 37 then Some marks.Percent else
    if nat_eq b 38 then Some marks.And else
    if nat_eq b 124 then Some marks.Or else
    if nat_eq b 94 then Some marks.Xor else
    if nat_eq b 33 then Some marks.Bang else
    None

-- a mark of two bytes
abbrev pub two_mark : ℕ → ℕ → Option Mark
two_mark a b =
    if nat_eq a 61 && nat_eq b 61 then Some marks.Equal else
    if nat_eq a 33 && nat_eq b 61 then Some marks.NotEqual else
    if nat_eq a 60 && nat_eq b 61 then Some marks.LessOrEqual else
    if nat_eq a 62 && nat_eq b 61 then Some marks.GreaterOrEqual else
    if nat_eq a 60 && nat_eq b 60 then Some marks.ShiftLeft else
    if nat_eq a 62 && nat_eq b 62 then Some marks.ShiftRight else
    if nat_eq a 38 && nat_eq b 38 then Some marks.Both else
    if nat_eq a 124 && nat_eq b 124 then Some marks.Either else
    None

-- a reserved word
unfoldable pub reserved : List ℕ → Option Word
reserved w =
    if bytes_eq w (codes "def") then Some words.Def else
    if bytes_eq w (codes "if") then Some words.If else
    if bytes_eq w (codes "else") then Some words.Else else
    if bytes_eq w (codes "emit") then Some words.Emit else
    if bytes_eq w (codes "filter") then Some words.Filter else
    if bytes_eq w (codes "map") then Some words.Map else
    if bytes_eq w (codes "zip") then Some words.Zip else
    if bytes_eq w (codes "groupby") then Some words.Groupby else
    if bytes_eq w (codes "final") then Some words.Final else
    if bytes_eq w (codes "print") then Some words.Print else
    if bytes_eq w (codes "join") then Some words.Join else
    if bytes_eq w (codes "top") then Some words.Top else
    if bytes_eq w (codes "max") then Some words.Max else
    if bytes_eq w (codes "min") then Some words.Min else
    if bytes_eq w (codes "sadd") then Some words.Sadd else
    if bytes_eq w (codes "decay") then Some words.Decay else
    if bytes_eq w (codes "infinity") then Some words.Infinity else
    if bytes_eq w (codes "mark") then Some words.Mark else
    if bytes_eq w (codes "epoch") then Some words.Epoch else
    if bytes_eq w (codes "epochs") then Some words.Epochs else
    None

-- a number that fits a word
abbrev pub below_limit : ℕ → Option ℕ
below_limit n = if nat_lt n (2 ^ 64) then Some n else None

abbrev pub number_piece : Option ℕ → ℕ → Piece
number_piece None len = pieces.Fault NumberTooLarge 0
number_piece (Some n) len = pieces.Token (kinds.Number n) len

abbrev pub name_piece : Option Word → ℕ → Piece
name_piece None len = pieces.Name len
name_piece (Some w) len = pieces.Token (kinds.Word w) len

-- a word, and the number of digits that it begins with
abbrev pub word_piece : List ℕ → ℕ → Piece
word_piece w digits =
    if nat_eq digits (length w) then number_piece (below_limit (digits_value 10 w)) (length w) else
    if bytes_eq w (codes "5tuple") then pieces.Token kinds.FiveTuple (length w) else
    if nat_eq digits 0 then name_piece (reserved w) (length w) else
    pieces.Fault BadByte digits

abbrev pub piece_of_mark : Option Mark → Option Mark → Piece
piece_of_mark (Some two) one = pieces.Token (kinds.Mark two) 2
piece_of_mark None (Some one) = pieces.Token (kinds.Mark one) 1
piece_of_mark None None = pieces.Fault BadByte 0

abbrev pub mark_at : ℕ → List ℕ → Piece
mark_at a [] = piece_of_mark None (one_mark a)
mark_at a (b ∷ bytes) = piece_of_mark (two_mark a b) (one_mark a)

-- what comes first
abbrev pub piece : List ℕ → Piece
piece [] = pieces.Blank 0
piece (b ∷ bytes) =
    if is_blank b then pieces.Blank 1 else
    if nat_eq b 35 then pieces.Blank (1 + prefix_len is_not_line_feed bytes) else
    if is_word_byte b then word_piece (take (prefix_len is_word_byte (b ∷ bytes)) (b ∷ bytes)) (prefix_len is_digit (b ∷ bytes)) else
    mark_at b bytes

-- the tokens of a text and the texts of its names in the order of their numbers, or the first fault
abbrev pub Cut : Type 0
Cut = Result (List Token × List (List ℕ)) QueryFault

abbrev pub with_front : Token → Cut → Cut
with_front t (Ok found) = Ok (t ∷ found.0, found.1)
with_front t (Err fault) = Err fault

abbrev pub token_at : TokenKind → ℕ → ℕ → Token
token_at kind start end = record { kind = kind; span = record { start = start; end = end } }

-- a fault at a byte
abbrev pub fault_at : FaultKind → ℕ → QueryFault
fault_at kind at = record { kind = kind; span = record { start = at; end = at } }

-- What a piece at an offset gives, before what comes after it. A name has the number of its text among the names so far, or the next one.
abbrev pub cut_piece : Piece → ℕ → List (List ℕ) → List ℕ → (ℕ → List (List ℕ) → Cut) → Cut
cut_piece (pieces.Blank n) at names bytes next = next n names
cut_piece (pieces.Name n) at names bytes next =
    with_front (token_at (kinds.Name (number_in names (take n bytes))) at (at + n)) (next n (with_name names (take n bytes)))
cut_piece (pieces.Token kind n) at names bytes next = with_front (token_at kind at (at + n)) (next n names)
cut_piece (pieces.Fault kind n) at names bytes next = Err (fault_at kind (at + n))

-- The tokens of these bytes, which begin at an offset and come after these names, with the end as the last one; or the first fault.
-- The number bounds the pieces: each takes a byte at least, so as many as there are bytes are enough.
unfoldable pub cut : ℕ → ℕ → List (List ℕ) → List ℕ → Cut
cut zero at names bytes = Ok (token_at kinds.End at at ∷ [], names)
cut (suc n) at names [] = Ok (token_at kinds.End at at ∷ [], names)
cut (suc n) at names (b ∷ bytes) = cut_piece (piece (b ∷ bytes)) at names (b ∷ bytes)
    (λ k known. cut n (at + k) known (drop k (b ∷ bytes)))

-- the tokens of a text
abbrev pub tokens_of : List ℕ → Cut
tokens_of text = cut (length text) 0 [] text

-- the piece takes a byte at least, and no more than there are
abbrev pub TakesSome : Piece → ℕ → Type 0
TakesSome (pieces.Blank n) len = (0 < n) × (n ≤ len)
TakesSome (pieces.Name n) len = (0 < n) × (n ≤ len)
TakesSome (pieces.Token kind n) len = (0 < n) × (n ≤ len)
TakesSome (pieces.Fault kind n) len = n < len
