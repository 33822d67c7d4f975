-- The tokens that may stand at the place of a fault of the grammar.
use Rattle.std.specs.Prelude.{ℕ, ◌+◌, Bool, true, false, nat_lt, if◌then◌else◌, List, [], ◌∷◌, ◌++◌, codes, filter, length, take, Option}
use Rattle.std.specs.Prelude.{Some, None, Result, Ok, Err}
use Rattle.query_lang.specs.declared.fault.{FaultKind.{FaultKind, TheVariants.{QueryTooLong, UnexpectedToken}}, QueryFault.QueryFault}
use Rattle.query_lang.specs.declared.{query.Query.Query, token.Mark.Mark}
use Rattle.query_lang.specs.declared.token.Mark.TheVariants as marks
use Rattle.query_lang.specs.declared.token.TokenKind.{TokenKind}
use Rattle.query_lang.specs.declared.token.TokenKind.TheVariants as kinds
use Rattle.query_lang.specs.declared.token.Word.{Word}
use Rattle.query_lang.specs.declared.token.Word.TheVariants as words
use Rattle.query_grammar.specs.Texts.{parsed_text}

abbrev pub word_spelling : Word → List ℕ
word_spelling words.Def = codes "def"
word_spelling words.If = codes "if"
word_spelling words.Else = codes "else"
word_spelling words.Emit = codes "emit"
word_spelling words.Filter = codes "filter"
word_spelling words.Map = codes "map"
word_spelling words.Zip = codes "zip"
word_spelling words.Groupby = codes "groupby"
word_spelling words.Final = codes "final"
word_spelling words.Print = codes "print"
word_spelling words.Join = codes "join"
word_spelling words.Top = codes "top"
word_spelling words.Max = codes "max"
word_spelling words.Min = codes "min"
word_spelling words.Sadd = codes "sadd"
word_spelling words.Decay = codes "decay"
word_spelling words.Infinity = codes "infinity"
word_spelling words.Mark = codes "mark"
word_spelling words.Epoch = codes "epoch"
word_spelling words.Epochs = codes "epochs"

abbrev pub mark_spelling : Mark → List ℕ
mark_spelling marks.OpenParen = codes "("
mark_spelling marks.CloseParen = codes ")"
mark_spelling marks.OpenBracket = codes "["
mark_spelling marks.CloseBracket = codes "]"
mark_spelling marks.OpenBrace = codes "{"
mark_spelling marks.CloseBrace = codes "}"
mark_spelling marks.Comma = codes ","
mark_spelling marks.Semicolon = codes ";"
mark_spelling marks.Assign = codes "="
mark_spelling marks.Equal = codes "=="
mark_spelling marks.NotEqual = codes "!="
mark_spelling marks.Less = codes "<"
mark_spelling marks.LessOrEqual = codes "<="
mark_spelling marks.Greater = codes ">"
mark_spelling marks.GreaterOrEqual = codes ">="
mark_spelling marks.ShiftLeft = codes "<<"
mark_spelling marks.ShiftRight = codes ">>"
mark_spelling marks.Plus = codes "+"
mark_spelling marks.Minus = codes "-"
mark_spelling marks.Times = codes "*"
mark_spelling marks.Slash = codes "/"
mark_spelling marks.Percent = codes "%"
mark_spelling marks.And = codes "&"
mark_spelling marks.Both = codes "&&"
mark_spelling marks.Or = codes "|"
mark_spelling marks.Either = codes "||"
mark_spelling marks.Xor = codes "^"
mark_spelling marks.Bang = codes "!"

-- a text of a token of this kind
abbrev pub spelling : TokenKind → List ℕ
spelling (kinds.Name id) = codes "x"
spelling (kinds.Number n) = codes "0"
spelling kinds.FiveTuple = codes "5tuple"
spelling (kinds.Word word) = word_spelling word
spelling (kinds.Mark mark) = mark_spelling mark
spelling kinds.End = []

-- a token of each kind
unfoldable pub all_kinds : List TokenKind
all_kinds =
    kinds.Name 0 ∷ kinds.Number 0 ∷ kinds.FiveTuple ∷ kinds.Word words.Def ∷ kinds.Word words.If ∷
    kinds.Word words.Else ∷ kinds.Word words.Emit ∷ kinds.Word words.Filter ∷ kinds.Word words.Map ∷
    kinds.Word words.Zip ∷ kinds.Word words.Groupby ∷ kinds.Word words.Final ∷ kinds.Word words.Print ∷
    kinds.Word words.Join ∷ kinds.Word words.Top ∷ kinds.Word words.Max ∷ kinds.Word words.Min ∷
    kinds.Word words.Sadd ∷ kinds.Word words.Decay ∷ kinds.Word words.Infinity ∷ kinds.Word words.Mark ∷
    kinds.Word words.Epoch ∷ kinds.Word words.Epochs ∷ kinds.Mark marks.OpenParen ∷ kinds.Mark marks.CloseParen ∷
    kinds.Mark marks.OpenBracket ∷ kinds.Mark marks.CloseBracket ∷ kinds.Mark marks.OpenBrace ∷
    kinds.Mark marks.CloseBrace ∷ kinds.Mark marks.Comma ∷ kinds.Mark marks.Semicolon ∷ kinds.Mark marks.Assign ∷
    kinds.Mark marks.Equal ∷ kinds.Mark marks.NotEqual ∷ kinds.Mark marks.Less ∷ kinds.Mark marks.LessOrEqual ∷
    kinds.Mark marks.Greater ∷ kinds.Mark marks.GreaterOrEqual ∷ kinds.Mark marks.ShiftLeft ∷
    kinds.Mark marks.ShiftRight ∷ kinds.Mark marks.Plus ∷ kinds.Mark marks.Minus ∷ kinds.Mark marks.Times ∷
    kinds.Mark marks.Slash ∷ kinds.Mark marks.Percent ∷ kinds.Mark marks.And ∷ kinds.Mark marks.Both ∷
    kinds.Mark marks.Or ∷ kinds.Mark marks.Either ∷ kinds.Mark marks.Xor ∷ kinds.Mark marks.Bang ∷ kinds.End ∷ []

-- whether a fault says nothing against a token at this byte: it is none of the grammar there, but of a limit, or a later one
abbrev pub is_beyond : ℕ → FaultKind → ℕ → Bool
is_beyond at QueryTooLong start = false
is_beyond at UnexpectedToken start = nat_lt at start
is_beyond at _ start = true

abbrev pub is_read : ℕ → Result Query QueryFault → Bool
is_read at (Ok q) = true
is_read at (Err fault) = is_beyond at fault.kind fault.span.start

-- a text with the token in the place of what followed, on a line of its own, so that it isn't a part of what stands before it
abbrev pub trial_text : List ℕ → TokenKind → List ℕ
trial_text front kind = (front ++ 10 ∷ []) ++ spelling kind

-- Whether some query goes on so after these bytes: the grammar's first fault isn't at the token.
abbrev pub goes_on : List ℕ → TokenKind → Bool
goes_on front kind = is_read (length front + 1) (parsed_text (trial_text front kind))

-- the tokens with which some query goes on after these bytes
abbrev pub expected_after : List ℕ → List TokenKind
expected_after front = filter (goes_on front) all_kinds

-- what may stand at the fault of a text: nothing is said unless a token is the fault
abbrev pub expected_at : List ℕ → QueryFault → FaultKind → List TokenKind
expected_at text fault UnexpectedToken = expected_after (take fault.span.start text)
expected_at text fault _ = []

abbrev pub expected_of : List ℕ → QueryFault → List TokenKind
expected_of text fault = expected_at text fault fault.kind
