-- Which fault is at which token: the first at which no query goes on, or at which a limit is passed.
use Rattle.std.specs.Prelude.{◌≡◌, ℕ, ◌+◌, ◌<◌, ◌≤◌, List, [], ◌∷◌, ◌++◌, Option, Some, option_and_then, if◌then◌else◌}
use Rattle.query_lang.specs.declared.{fault.Span.Span, query.Item.Item}
use Rattle.query_lang.specs.declared.token.Mark.TheVariants as marks
use Rattle.query_lang.specs.declared.token.TokenKind.TheVariants as kinds
use Rattle.query_lang.specs.declared.{token.Token.Token, fault.TheConstants.{MAX_NESTING, MAX_NODES, MAX_STATEMENTS}}
use Rattle.query_grammar.specs.declared.stop.{Counts.Counts, Stop.{Stop, TheVariants.{Unexpected, Nodes, Statements, Nesting}}}
use Rattle.query_grammar.specs.{Kinds.{one_of, kind, kind_number, sign}, Language.{Leaf, Plain, Node, Statement, tokens_of}}
use Rattle.query_grammar.specs.{Parser.{no_counts, Outcome, Done, Stopped, Limits, Limited, charge}, Grammar.{Query, Derives}}

-- ---- brackets

abbrev pub opening : List ℕ
opening = kind_number (sign marks.OpenParen) ∷ kind_number (sign marks.OpenBracket) ∷ kind_number (sign marks.OpenBrace) ∷ []

abbrev pub closing : List ℕ
closing = kind_number (sign marks.CloseParen) ∷ kind_number (sign marks.CloseBracket) ∷ kind_number (sign marks.CloseBrace) ∷ []

-- 1 for a bracket of any kind that opens, and for one that closes
abbrev pub opens : ℕ → ℕ
opens n = if one_of opening n then 1 else 0

abbrev pub closes : ℕ → ℕ
closes n = if one_of closing n then 1 else 0

-- how many brackets are opened, and how many are closed
abbrev pub opened : List Token → ℕ
opened [] = 0
opened (t ∷ ts) = opens (kind t) + opened ts

abbrev pub closed : List Token → ℕ
closed [] = 0
closed (t ∷ ts) = closes (kind t) + closed ts

-- no bracket would be the 65th that is open at once
abbrev pub IsShallow : List Token → Type 0
IsShallow ts = (front more : List Token) (t : Token) → ts ≡ front ++ t ∷ more → opens (kind t) ≡ 1
    → opened front < closed front + MAX_NESTING

-- ---- beginnings of queries

-- Some query's tokens begin with these.
abbrev pub BeginsQuery : List Token → Type 0
BeginsQuery ts = (more : List Token) × (q : List Item × Span) × Derives (ts ++ more) q

-- Some query's leaves begin with these.
abbrev pub BeginsLeaves : List Leaf → Type 0
BeginsLeaves leaves = (more : List Leaf) × (d : ℕ) × (q : List Item × Span) × Query d (leaves ++ more) q

-- the counts after these leaves, or None where one of them passes a limit
abbrev pub counted : Limits → Counts → List Leaf → Option Counts
counted m c [] = Some c
counted m c (l ∷ leaves) = option_and_then (λ d. counted m d leaves) (charge m l.role c)

-- The tokens begin a query, no limit is passed in them, and these are the counts after them.
pub record IsSound (ts : List Token) (c : Counts) : Type 0 where
  pub leaves : List Leaf
  pub tokens : tokens_of leaves ≡ ts
  pub begins : BeginsLeaves leaves
  pub within : counted Limited no_counts leaves ≡ Some c
  pub shallow : IsShallow ts

-- And so do they with the token t after them, which counts as the leaf's role says.
pub record IsGrammatical (front : List Token) (t : Token) (leaf : Leaf) (c : Counts) : Type 0 where
  pub leaves : List Leaf
  pub tokens : tokens_of leaves ≡ front
  pub begins : BeginsLeaves (leaves ++ leaf ∷ [])
  pub within : counted Limited no_counts leaves ≡ Some c
  pub shallow : IsShallow front
  pub token : leaf.token ≡ t

-- The fault is at the token t, after the tokens front, none of which has a fault.
abbrev pub StandsAt : Stop → List Token → Token → Type 0
-- no query's tokens begin with those up to and including t
StandsAt Unexpected front t = (c : Counts) × IsSound front c × (BeginsQuery (front ++ t ∷ []) → ⊥)
-- t is grammatical there, and is a node after MAX_NODES others of its item
StandsAt Nodes front t = (c : Counts) × (leaf : Leaf) × IsGrammatical front t leaf c × (leaf.role ≡ Node) × (MAX_NODES ≤ c.nodes)
-- t is grammatical there, and begins a statement after MAX_STATEMENTS others of its fold
StandsAt Statements front t = (c : Counts) × (leaf : Leaf) × IsGrammatical front t leaf c × (leaf.role ≡ Statement)
    × (MAX_STATEMENTS ≤ c.statements)
-- t is grammatical there, and is a bracket that would be the 65th open at once
StandsAt Nesting front t = (c : Counts) × (leaf : Leaf) × IsGrammatical front t leaf c × (leaf.role ≡ Plain)
    × (opens (kind t) ≡ 1) × (opened front ≡ closed front + MAX_NESTING)

-- ---- what parsing says

-- The tokens are those of this query, which passes no limit.
pub record IsAccepted (ts : List Token) (q : List Item × Span) : Type 0 where
  pub depth : ℕ
  pub leaves : List Leaf
  pub tokens : tokens_of leaves ≡ ts
  pub means : Query depth leaves q
  pub counts : Counts
  pub within : counted Limited no_counts leaves ≡ Some counts
  pub shallow : IsShallow ts

-- the last token is an end
abbrev pub HasEnd : List Token → Type 0
HasEnd ts = (front : List Token) × (t : Token) × (ts ≡ front ++ t ∷ []) × (t.kind ≡ kinds.End)

-- what parsing gives, in the words of the grammar
abbrev pub Says : List Token → Outcome (List Item × Span) → Type 0
Says ts (Done q c []) = IsAccepted ts q
Says ts (Done q c (t ∷ more)) = ⊥
Says ts (Stopped k []) = ⊥
Says ts (Stopped k (t ∷ more)) = (front : List Token) × (ts ≡ front ++ t ∷ more) × StandsAt k front t
