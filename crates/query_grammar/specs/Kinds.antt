-- Kinds of tokens by number, and which tokens a word of the grammar represents.
use Rattle.std.specs.Prelude.{ℕ, Bool, true, false, Option, Some, None, List, [], ◌∷◌, nat_eq, if◌then◌else◌}
use Rattle.query_lang.specs.declared.{fault.Span.Span, fold.Op.Op, query.Name.Name, token.Word.Word}
use Rattle.query_lang.specs.declared.token.Word.TheVariants as words
use Rattle.query_lang.specs.declared.token.Mark.{Mark}
use Rattle.query_lang.specs.declared.token.Mark.TheVariants as marks
use Rattle.query_lang.specs.declared.token.TokenKind.{TokenKind}
use Rattle.query_lang.specs.declared.token.TokenKind.TheVariants as kinds
use Rattle.query_lang.specs.declared.token.Token.{Token}

abbrev pub word_number : Word → ℕ
word_number words.Def = 4
word_number words.If = 5
word_number words.Else = 6
word_number words.Emit = 7
word_number words.Filter = 8
word_number words.Map = 9
word_number words.Zip = 10
word_number words.Groupby = 11
word_number words.Final = 12
word_number words.Print = 13
word_number words.Join = 14
word_number words.Top = 15
word_number words.Max = 16
word_number words.Min = 17
word_number words.Sadd = 18
word_number words.Decay = 19
word_number words.Infinity = 20
word_number words.Mark = 21
word_number words.Epoch = 22
word_number words.Epochs = 23

abbrev pub mark_number : Mark → ℕ
mark_number marks.OpenParen = 24
mark_number marks.CloseParen = 25
mark_number marks.OpenBracket = 26
mark_number marks.CloseBracket = 27
mark_number marks.OpenBrace = 28
mark_number marks.CloseBrace = 29
mark_number marks.Comma = 30
mark_number marks.Semicolon = 31
mark_number marks.Assign = 32
mark_number marks.Equal = 33
mark_number marks.NotEqual = 34
mark_number marks.Less = 35
mark_number marks.LessOrEqual = 36
mark_number marks.Greater = 37
mark_number marks.GreaterOrEqual = 38
mark_number marks.ShiftLeft = 39
mark_number marks.ShiftRight = 40
mark_number marks.Plus = 41
mark_number marks.Minus = 42
mark_number marks.Times = 43
mark_number marks.Slash = 44
mark_number marks.Percent = 45
mark_number marks.And = 46
mark_number marks.Both = 47
mark_number marks.Or = 48
mark_number marks.Either = 49
mark_number marks.Xor = 50
mark_number marks.Bang = 51

-- a number for each kind of token; all names are of one kind, and all numbers
abbrev pub kind_number : TokenKind → ℕ
kind_number (kinds.Name id) = 0
kind_number (kinds.Number n) = 1
kind_number kinds.FiveTuple = 2
kind_number kinds.End = 3
kind_number (kinds.Word w) = word_number w
kind_number (kinds.Mark m) = mark_number m

abbrev pub kind : Token → ℕ
kind t = kind_number t.kind

-- a token of this kind, which gives its span
abbrev pub is : TokenKind → Token → Option Span
is wanted t = if nat_eq (kind t) (kind_number wanted) then Some t.span else None

-- a name, which gives its number and its span
abbrev pub name_of : TokenKind → Span → Option Name
name_of (kinds.Name id) span = Some (record { id = id; span = span })
name_of _ span = None

abbrev pub name : Token → Option Name
name t = name_of t.kind t.span

-- a number
abbrev pub token_number : TokenKind → Span → Option (ℕ × Span)
token_number (kinds.Number n) span = Some (n, span)
token_number _ span = None

abbrev pub number : Token → Option (ℕ × Span)
number t = token_number t.kind t.span

-- one of these operators or functions
abbrev pub operator : List (TokenKind × Op) → Token → Option (Op × Span)
operator [] t = None
operator (o ∷ others) t = if nat_eq (kind t) (kind_number o.0) then Some (o.1, t.span) else operator others t

-- the kinds of tokens that stand for these operators
abbrev pub kinds_of : List (TokenKind × Op) → List ℕ
kinds_of [] = []
kinds_of (o ∷ others) = kind_number o.0 ∷ kinds_of others

abbrev pub sign : Mark → TokenKind
sign m = kinds.Mark m

abbrev pub keyword : Word → TokenKind
keyword w = kinds.Word w

-- whether a number is in the list
abbrev pub one_of : List ℕ → ℕ → Bool
one_of [] n = false
one_of (x ∷ xs) n = if nat_eq n x then true else one_of xs n

-- whether the token is of one of these kinds
abbrev pub among : List ℕ → Token → Bool
among xs t = one_of xs (kind t)
