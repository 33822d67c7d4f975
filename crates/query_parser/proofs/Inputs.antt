-- A word, an open parenthesis, a name and a comma are read as one, in which the name is what is wanted.
use Rattle.std.proofs.Common.{◌≡◌, ◌∙◌, List, Result, Ok, Err, refl}
use Rattle.query_lang.specs.declared.token.Mark.TheVariants as marks
use Rattle.query_lang.specs.declared.{query.Name.Name, token.{Token.Token, TokenKind.TokenKind}}
use Rattle.query_grammar.specs.{declared.stop.Counts.Counts, Kinds.sign, Reading.{after, before, parens, plain_name, token_of}}
use Rattle.query_grammar.specs.Parser.{Limited, Outcome, Done, Stopped, Parser, and_then, followed_by, mapped}
use Rattle.query_parser.specs.{declared.{halt.Halt.Halt, reader.Reader.Reader}, Reads.{Fails, Gives, Sees, StopsAt, input_of}}
use Rattle.query_parser.specs.declared.halt.Halt.TheVariants as halts

one_after_another : {A B C : Type 0} (o : Outcome A) (f : A → Counts → List Token → Outcome B) (g : B → Counts → List Token → Outcome C)
    → and_then (and_then o f) g ≡ and_then o (λ a c ts. and_then (f a c ts) g)
one_after_another (Done a c ts) f g = refl
one_after_another (Stopped k ts) f g = refl

-- what comes after an input, up to the parenthesis that closes, is read after it
module _ {A : Type 0} (w : TokenKind) (p : Parser A) (from : Reader) where
  abbrev whole : Parser (Name × A)
  whole = after Limited w (parens Limited (followed_by (plain_name Limited) (after Limited (sign marks.Comma) p)))

  abbrev first : Outcome Name
  first = input_of w from.counts from.rest.now

  abbrev all : Outcome (Name × A)
  all = whole from.counts from.rest.now

  input_first : all ≡ before Limited (followed_by (input_of w) p) (sign marks.CloseParen) from.counts from.rest.now
  input_first = simp one_after_another

  pub input_stops : (x : Halt) (to : Reader) → StopsAt x to first → StopsAt x to all
  input_stops halts.Memory to h = absurd h
  input_stops (halts.At k) to h = input_first ∙ rw h refl

  module _ (name : Name) (mid : Reader) (input : first ≡ Done name mid.counts mid.rest.now) where
    pub part_stops : (x : Halt) (to : Reader) → StopsAt x to (p mid.counts mid.rest.now) → StopsAt x to all
    part_stops halts.Memory to h = absurd h
    part_stops (halts.At k) to h = input_first ∙ rw (input, h) refl

    pub part_fails : (x : Halt) (to : Reader) → Fails x to (p mid.counts mid.rest.now) → Fails x to all
    part_fails halts.Memory to h = tt
    part_fails (halts.At k) to h = input_first ∙ rw (input, h) refl

    input_then : (a : A) (c : Counts) (ts : List Token) → p mid.counts mid.rest.now ≡ Done a c ts
        → all ≡ mapped (λ span. (name, a)) (token_of Limited (sign marks.CloseParen)) c ts
    input_then a c ts part = input_first ∙ rw (input, part) (simp one_after_another)

    pub input_closed : (a : A) (last to : Reader) (r : Result (Name × A) Halt)
        → p mid.counts mid.rest.now ≡ Done a last.counts last.rest.now
        → Sees r last to (mapped (λ span. (name, a)) (token_of Limited (sign marks.CloseParen))) → Sees r from to whole
    input_closed a last to (Ok v) part h = input_then a last.counts last.rest.now part ∙ h
    input_closed a last to (Err halts.Memory) part h = absurd h
    input_closed a last to (Err (halts.At k)) part h = input_then a last.counts last.rest.now part ∙ h

-- what is seen is given
pub seen_given : {A : Type 0} (p : Parser A) (from to : Reader) (r : Result A Halt) → Sees r from to p → Gives r from to p
seen_given p from to (Ok a) h = h
seen_given p from to (Err halts.Memory) h = tt
seen_given p from to (Err (halts.At k)) h = h
