-- What a text means, or which fault is its first.
use Rattle.std.specs.Prelude.{◌≡◌, ℕ, ◌<◌, ◌≤◌, List, [], ◌∷◌, ◌++◌, length, Result, Ok, Err, nat_lt, if◌then◌else◌}
use Rattle.query_lang.specs.declared.fault.FaultKind.{FaultKind, TheVariants.{QueryTooLong, UnexpectedToken, OverLimit}}
use Rattle.query_lang.specs.declared.fault.Limit.TheVariants as limits
use Rattle.query_lang.specs.declared.{fault.{QueryFault.QueryFault, Span.Span, TheConstants.MAX_QUERY}, query.{Item.Item, Query.Query}}
use Rattle.query_lang.specs.{declared.token.Token.Token, Lexis.{Cut, fault_at, tokens_of}}
use Rattle.query_grammar.specs.declared.stop.Stop.{Stop, TheVariants.{Unexpected, Nodes, Statements, Nesting}}
use Rattle.query_grammar.specs.{Fault.{StandsAt, IsAccepted}, Parser.{Outcome, Done, Stopped}, Reading.parsed}

abbrev pub kind_of : Stop → FaultKind
kind_of Unexpected = UnexpectedToken
kind_of Nodes = OverLimit limits.Nodes
kind_of Statements = OverLimit limits.Statements
kind_of Nesting = OverLimit limits.Nesting

-- a fault at a token has the token's span
abbrev pub fault_of : Stop → Token → QueryFault
fault_of k t = record { kind = kind_of k; span = t.span }

-- The query of a text: its names are numbered by first appearance, and its items are those of the grammar.
pub record IsQueryOf (text : List ℕ) (q : Query) : Type 0 where
  pub short : length text ≤ MAX_QUERY
  pub tokens : List Token
  pub cut : tokens_of text ≡ Ok (tokens, q.names)
  pub accepted : IsAccepted tokens (q.items, q.end)

-- the first fault of a text: of its length, then of the lexis, then of the grammar
pub data IsFaultOf (text : List ℕ) (fault : QueryFault) : Type 0 where
  too_long : MAX_QUERY < length text → fault ≡ fault_at QueryTooLong MAX_QUERY → IsFaultOf text fault
  in_lexis : length text ≤ MAX_QUERY → tokens_of text ≡ Err fault → IsFaultOf text fault
  in_grammar : length text ≤ MAX_QUERY
      → (names : List (List ℕ)) (front : List Token) (t : Token) (more : List Token) (k : Stop)
      → tokens_of text ≡ Ok (front ++ t ∷ more, names) → StandsAt k front t
      → fault ≡ fault_of k t → IsFaultOf text fault

-- ---- by functions

-- the fault at the first of the tokens; there is one wherever a parser stops
abbrev pub first_fault_of : Stop → List Token → QueryFault
first_fault_of k [] = record { kind = kind_of k; span = record { start = 0; end = 0 } }
first_fault_of k (t ∷ more) = fault_of k t

abbrev pub answered : Outcome (List Item × Span) → Result (List Item × Span) QueryFault
answered (Done q c rest) = Ok q
answered (Stopped k rest) = Err (first_fault_of k rest)

abbrev pub with_names : List (List ℕ) → Result (List Item × Span) QueryFault → Result Query QueryFault
with_names names (Ok q) = Ok (record { names = names; items = q.0; end = q.1 })
with_names names (Err fault) = Err fault

abbrev pub parsed_cut : Cut → Result Query QueryFault
parsed_cut (Ok found) = with_names found.1 (answered (parsed found.0))
parsed_cut (Err fault) = Err fault

-- the query of a text, or its first fault
abbrev pub parsed_text : List ℕ → Result Query QueryFault
parsed_text text = if nat_lt MAX_QUERY (length text) then Err (fault_at QueryTooLong MAX_QUERY) else parsed_cut (tokens_of text)
