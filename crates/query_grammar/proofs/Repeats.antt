-- A parser any number of times is a chain of turns, of which none differs as the last.
use mathlib.Core.Path.{fun_ext}
use Rattle.std.proofs.Common.{◌≡◌, ℕ, zero, suc, Bool, true, false, cond, List, [], ◌∷◌, length, Option, Some, None, refl, inl, ◌⊎◌}
use Rattle.query_lang.specs.declared.token.Token.{Token}
use Rattle.query_grammar.specs.{declared.stop.Counts.Counts, Language.{Language, Leaf, Repeated, Meaning, Chain, Chained}, Parser.Limits}
use Rattle.query_grammar.specs.Parser.{Outcome, Done, Stopped, Parser, and_then, next_is, mapped, turns, repeated, linked, chain_turns}
use Rattle.query_grammar.{specs.Parser.{next_turn, chained}, proofs.{Chains.parses_chained, Parses.{Parses, meets_as, Apart, Keeps}}}
use Rattle.query_grammar.proofs.Sequences.{parses_mapped}

abbrev pub as_turn : {A : Type 0} → A → A ⊎ ⊥
as_turn a = inl a

abbrev pub turns_of : {A : Type 0} → List A × Option ⊥ → List A
turns_of v = v.0

-- the parser of the chain
abbrev pub by_chain : {A : Type 0} → (Token → Bool) → Parser A → Parser (List A)
by_chain test p = mapped turns_of (chained test (mapped as_turn p))

linked_turn : {A : Type 0} (a : A) (o : Outcome (List A × Option ⊥))
    → and_then (and_then o (λ v c rest. Done v.0 c rest)) (λ others c rest. Done (a ∷ others) c rest)
    ≡ and_then (linked a o) (λ v c rest. Done v.0 c rest)
linked_turn a (Done v c rest) = refl
linked_turn a (Stopped k rest) = refl

pub same_turns : {A : Type 0} (test : Token → Bool) (p : Parser A) (n : ℕ) (c : Counts) (ts : List Token)
    → turns n test p c ts ≡ mapped turns_of (chain_turns n test (mapped as_turn p)) c ts
same_turns test p zero c ts = refl
same_turns {A} test p (suc n) c ts = go (same_turns test p n) (next_is test ts) (p c ts)
  where
    go : ((d : Counts) (rest : List Token) → turns n test p d rest ≡ mapped turns_of (chain_turns n test (mapped as_turn p)) d rest)
        → (b : Bool) (o : Outcome A)
        → cond b (and_then o (λ a c' rest. and_then (turns n test p c' rest) (λ others c'' rest'. Done (a ∷ others) c'' rest')))
        (Done [] c ts) ≡ and_then (cond b (and_then (and_then o (λ a c' rest. Done (as_turn a) c' rest))
        (next_turn (chain_turns n test (mapped as_turn p)))) (Done ([], None) c ts)) (λ v c' rest. Done (turns_of v) c' rest)
    go ih false o = refl
    go ih true (Done a d rest) = rw (ih d rest) (linked_turn a (chain_turns n test (mapped as_turn p) d rest))
    go ih true (Stopped k rest) = refl

pub repeated_is : {A : Type 0} (test : Token → Bool) (p : Parser A) → repeated test p ≡ by_chain test p
repeated_is test p = fun_ext (λ c. fun_ext (λ ts. same_turns test p (length ts) c ts))

module _ {A : Type 0} (L : Language A) where
  of_chain : (w : List Leaf) (v : List A) (o : Option ⊥) → Chain (Meaning as_turn L) w v o → Repeated L w v
  of_chain w [] None h = h
  of_chain w v (Some b) h = absurd b
  of_chain w (a ∷ others) None h =
      let same : h.3.0 ≡ a = cc in
      (h.0, h.1, h.2, rw same at h.3.1, of_chain h.1 others None h.4)

  to_chain : (w : List Leaf) (v : List A) → Repeated L w v → Chain (Meaning as_turn L) w v None
  to_chain w [] h = h
  to_chain w (a ∷ others) h = (h.0, h.1, h.2, (a, h.3, refl), to_chain h.1 others h.4)

  is_repeated : (w : List Leaf) (v : List A) → Meaning turns_of (Chained (Meaning as_turn L)) w v → Repeated L w v
  is_repeated w v h = rw (← h.2) (of_chain w h.0.0 h.0.1 h.1)

-- another language of the same words with the same meanings
parses_language : {A : Type 0} {m : Limits} {L M : Language A} {p : Parser A} {starts on : Token → Bool} {nullable : Bool}
    → ((w : List Leaf) (v : A) → L w v → M w v) → ((w : List Leaf) (v : A) → M w v → L w v) → Parses m L p starts on nullable
    → Parses m M p starts on nullable
parses_language {m = m} {p = p} to from f = record {
  meets = λ c ts. meets_as m p p to (λ w rest x e s. refl) (p c ts) (f.meets c ts);
  complete = λ c w v rest h clear. f.complete c w v rest (from w v h) clear;
  begins = λ w v h. f.begins w v (from w v h);
  sample = (f.sample.0, f.sample.1, to f.sample.0 f.sample.1 f.sample.2);
}

pub parses_repeated : {A : Type 0} {m : Limits} {L : Language A} {p : Parser A} {test on : Token → Bool} → (goes_on : Token → Bool)
    → Parses m L p test on false → Apart test on → Keeps goes_on test
    → Keeps goes_on on → Parses m (Repeated L) (repeated test p) test goes_on true
parses_repeated {A} {m} {L} {p} {test} goes_on f apart ends keeps = rw (repeated_is test p) (parses_language (is_repeated L)
    (λ w v h. ((v, None), to_chain L w v h, refl)) (parses_mapped m turns_of (Chained (Meaning as_turn L)) (chained test (mapped as_turn p))
    (parses_chained goes_on (parses_mapped m as_turn L p f) apart ends keeps)))
