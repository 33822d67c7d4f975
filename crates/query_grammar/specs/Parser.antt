-- Parsers that go by the next token, as functions on lists of tokens.
use Rattle.std.specs.Prelude.{ℕ, zero, suc, ◌+◌, Bool, false, List, [], ◌∷◌, length, Option, Some, None, nat_lt, if◌then◌else◌, ◌⊎◌}
use Rattle.std.proofs.Common.{inl, inr}
use Rattle.query_lang.specs.declared.{token.Token.Token, fault.TheConstants.{MAX_NODES, MAX_STATEMENTS}}
use Rattle.query_grammar.specs.declared.stop.{Counts.Counts, Stop.{Stop, TheVariants.{Unexpected, Nodes, Statements}}}
use Rattle.query_grammar.specs.Language.{Role, Plain, Node, Statement, Opening}

-- whether the limits count
pub data Limits : Type 0 where
  Limited : Limits
  Unlimited : Limits

-- the counts after a token of this role, or None where it passes a limit
abbrev pub charge : Limits → Role → Counts → Option Counts
charge m Plain c = Some c
charge m Opening c = Some (record { nodes = 0; statements = 0 })
charge Limited Node c = if nat_lt c.nodes MAX_NODES then Some (record { nodes = c.nodes + 1; statements = c.statements }) else None
charge Limited Statement c = if nat_lt c.statements MAX_STATEMENTS then Some (record { nodes = c.nodes; statements = c.statements + 1 })
    else None
charge Unlimited Node c = Some c
charge Unlimited Statement c = Some c

-- the limit that a token of this role may pass
abbrev pub limit_of : Role → Stop
limit_of Plain = Unexpected
limit_of Opening = Unexpected
limit_of Node = Nodes
limit_of Statement = Statements

pub data Outcome (A : Type 0) : Type 0 where
  -- a value, the counts, and the tokens after it
  Done : A → Counts → List Token → Outcome A
  -- the fault stands at the first of these tokens
  Stopped : Stop → List Token → Outcome A

abbrev pub Parser : Type 0 → Type 0
Parser A = Counts → List Token → Outcome A

abbrev pub and_then : {A B : Type 0} → Outcome A → (A → Counts → List Token → Outcome B) → Outcome B
and_then (Done a c rest) f = f a c rest
and_then (Stopped k rest) f = Stopped k rest

abbrev pub paid : {A : Type 0} → Role → Option Counts → A → Token → List Token → Outcome A
paid role None a t ts = Stopped (limit_of role) (t ∷ ts)
paid role (Some c) a t ts = Done a c ts

abbrev pub taken : {A : Type 0} → Limits → Role → Counts → Option A → Token → List Token → Outcome A
taken m role c None t ts = Stopped Unexpected (t ∷ ts)
taken m role c (Some a) t ts = paid role (charge m role c) a t ts

abbrev pub word : {A : Type 0} → Limits → Role → (Token → Option A) → Parser A
word m role takes c [] = Stopped Unexpected []
word m role takes c (t ∷ ts) = taken m role c (takes t) t ts

abbrev pub followed_by : {A B : Type 0} → Parser A → Parser B → Parser (A × B)
followed_by p q c ts = and_then (p c ts) (λ a c' rest. and_then (q c' rest) (λ b c'' rest'. Done (a, b) c'' rest'))

abbrev pub mapped : {A B : Type 0} → (A → B) → Parser A → Parser B
mapped f p c ts = and_then (p c ts) (λ a c' rest. Done (f a) c' rest)

-- whether the next token is one of these
abbrev pub next_is : (Token → Bool) → List Token → Bool
next_is test [] = false
next_is test (t ∷ ts) = test t

abbrev pub at_most_once : {A : Type 0} → (Token → Bool) → Parser A → Parser (Option A)
at_most_once starts p c ts = if next_is starts ts then and_then (p c ts) (λ a c' rest. Done (Some a) c' rest) else Done None c ts

abbrev pub either : {A : Type 0} → (Token → Bool) → Parser A → Parser A → Parser A
either starts p q c ts = if next_is starts ts then p c ts else q c ts

-- at most n times
abbrev pub turns : {A : Type 0} → ℕ → (Token → Bool) → Parser A → Parser (List A)
turns zero starts p c ts = Done [] c ts
turns (suc n) starts p c ts = if next_is starts ts then and_then (p c ts)
    (λ a c' rest. and_then (turns n starts p c' rest) (λ others c'' rest'. Done (a ∷ others) c'' rest')) else Done [] c ts

-- as often as the next token starts one
abbrev pub repeated : {A : Type 0} → (Token → Bool) → Parser A → Parser (List A)
repeated starts p c ts = turns (length ts) starts p c ts

-- with one turn more
abbrev pub linked : {A B : Type 0} → A → Outcome (List A × Option B) → Outcome (List A × Option B)
linked a o = and_then o (λ v c rest. Done (a ∷ v.0, v.1) c rest)

-- goes on after a turn, unless it is the last
abbrev pub next_turn : {A B : Type 0} → (Counts → List Token → Outcome (List A × Option B)) → A ⊎ B → Counts → List Token
    → Outcome (List A × Option B)
next_turn after (inl a) c rest = linked a (after c rest)
next_turn after (inr b) c rest = Done ([], Some b) c rest

abbrev pub chain_turns : {A B : Type 0} → ℕ → (Token → Bool) → Parser (A ⊎ B) → Parser (List A × Option B)
chain_turns zero starts p c ts = Done ([], None) c ts
chain_turns (suc n) starts p c ts = if next_is starts ts then and_then (p c ts)
    (next_turn (chain_turns n starts p)) else Done ([], None) c ts

abbrev pub chained : {A B : Type 0} → (Token → Bool) → Parser (A ⊎ B) → Parser (List A × Option B)
chained starts p c ts = chain_turns (length ts) starts p c ts

abbrev pub no_counts : Counts
no_counts = record { nodes = 0; statements = 0 }
