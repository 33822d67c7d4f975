-- What the lexer gives, unless memory runs out.
use Rattle.std.specs.Prelude.{◌≡◌, ◌≤◌, ℕ, List, Result, Ok, Err, length, nat_lt, if◌then◌else◌}
use Rattle.query_lang.specs.declared.{fault.{QueryFault.QueryFault, TheConstants.MAX_QUERY}, token.Piece.Piece}
use Rattle.query_lang.specs.declared.token.Piece.TheVariants as pieces
use Rattle.query_lang.specs.{declared.{fault.FaultKind.TheVariants.QueryTooLong, error.QueryError.QueryError}, Lexis.{Cut, fault_at}}
use Rattle.query_lang.specs.declared.error.QueryError.TheVariants.{Refused, Memory}
use Rattle.query_parser.specs.declared.lexer.Lexed.{Lexed}

-- the tokens and the names, or the first fault
abbrev pub GivesTokens : Result Lexed QueryError → Cut → Type 0
GivesTokens (Ok lexed) cut = cut ≡ Ok (lexed.tokens, lexed.names)
GivesTokens (Err (Refused fault)) cut = cut ≡ Err fault
GivesTokens (Err Memory) cut = Unit {0}

-- a text is no longer than a query may be
abbrev pub length_checked : List ℕ → Result (Unit {0}) QueryFault
length_checked text = if nat_lt MAX_QUERY (length text) then Err (fault_at QueryTooLong MAX_QUERY) else Ok tt

-- the piece takes no more bytes than that
abbrev pub IsWithin : Piece → ℕ → Type 0
IsWithin (pieces.Blank n) len = n ≤ len
IsWithin (pieces.Name n) len = n ≤ len
IsWithin (pieces.Token kind n) len = n ≤ len
IsWithin (pieces.Fault kind n) len = n ≤ len

abbrev pub IfRefused : {A : Type 0} → Result A QueryError → (QueryFault → Type 0) → Type 0
IfRefused (Ok x) holds = Unit {0}
IfRefused (Err (Refused fault)) holds = holds fault
IfRefused (Err Memory) holds = Unit {0}
