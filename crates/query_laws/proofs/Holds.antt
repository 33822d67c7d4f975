-- What holds of the meanings of a language's words, where the numbers among their tokens are words.
use Rattle.std.proofs.{Common.{◌≡◌, ℕ, List, [], ◌∷◌, ◌++◌, Option, Some, None, subst, inl, inr, ◌⊎◌}, lemmas.Option.same_Some}
use Rattle.std.specs.Prelude.{All}
use Rattle.query_lang.specs.declared.token.Mark.TheVariants as marks
use Rattle.query_lang.specs.declared.token.TokenKind.TheVariants as kinds
use Rattle.query_grammar.specs.Grammar.{After, Before, Between, Brackets, Listed, Parens, Separated, listed}
use Rattle.query_grammar.specs.Language as language
use Rattle.query_grammar.specs.Language.{AtMostOnce, Either, Language, Leaf, Meaning, Repeated, Role, Then}
use Rattle.query_grammar.proofs.ItemWeights.{all_cons, all_none}
use Rattle.query_laws.proofs.{Terms.{Span, TokenKind, IsWord, number, token_number, sign}, Tokens.{IsWordKind, AreWordTokens}}

abbrev pub HaveWords : List Leaf → Type 0
HaveWords [] = Unit {0}
HaveWords (l ∷ w) = IsWordKind l.token.kind × HaveWords w

pub leaves_have : (w : List Leaf) → AreWordTokens (language.tokens_of w) → HaveWords w
leaves_have [] h = tt
leaves_have (l ∷ w) h = (h.0, leaves_have w h.1)

pub both_have : (u w : List Leaf) → HaveWords (u ++ w) → HaveWords u × HaveWords w
both_have [] w h = (tt, h)
both_have (l ∷ u) w h = let r = both_have u w h.1 in ((h.0, r.0), r.1)

pub record Holds {A : Type 0} (L : Language A) (P : A → Type 0) : Type 0 where
  pub is : (w : List Leaf) (v : A) → L w v → HaveWords w → P v

abbrev pub any : {A : Type 0} → A → Type 0
any v = Unit {0}

pub any_holds : {A : Type 0} {L : Language A} → Holds L any
any_holds = record { is = λ w v h b. tt }

word_of : (k : TokenKind) (span : Span) {v : ℕ × Span} → IsWordKind k → token_number k span ≡ Some v → IsWord v.0
word_of (kinds.Number n) span {v} w e = subst (λ (z : ℕ × Span). IsWord z.0) (same_Some (n, span) v e) w
word_of (kinds.Name _) _ w e = absurd (cc e)
word_of kinds.FiveTuple _ w e = absurd (cc e)
word_of kinds.End _ w e = absurd (cc e)
word_of (kinds.Word k) _ w e = absurd (cc e)
word_of (kinds.Mark m) _ w e = absurd (cc e)

abbrev pub first_is_word : ℕ × Span → Type 0
first_is_word v = IsWord v.0

pub number_holds : {role : Role} → Holds (language.Word role number) first_is_word
number_holds = record { is = λ w v h b. word_of _ _ (subst HaveWords h.1 b).0 h.2 }

pub then_holds : {A B : Type 0} {L : Language A} {M : Language B} {P : A → Type 0} {Q : B → Type 0} → Holds L P → Holds M Q
    → Holds (Then L M) (λ v. P v.0 × Q v.1)
then_holds p q = record {
  is = λ w v h b. let r = both_have _ _ (subst HaveWords h.2 b) in (p.is h.0 v.0 h.3 r.0, q.is h.1 v.1 h.4 r.1);
}

pub first_holds : {A B : Type 0} {L : Language A} (M : Language B) {P : A → Type 0} → Holds L P → Holds (Then L M) (λ v. P v.0)
first_holds M p = record { is = λ w v h b. p.is h.0 v.0 h.3 (both_have _ _ (subst HaveWords h.2 b)).0 }

pub second_holds : {A B : Type 0} (L : Language A) {M : Language B} {Q : B → Type 0} → Holds M Q → Holds (Then L M) (λ v. Q v.1)
second_holds L q = record { is = λ w v h b. q.is h.1 v.1 h.4 (both_have _ _ (subst HaveWords h.2 b)).1 }

pub meaning_holds : {A B : Type 0} {L : Language A} {f : A → B} {P : A → Type 0} {Q : B → Type 0} → Holds L P → ((a : A) → P a → Q (f a))
    → Holds (Meaning f L) Q
meaning_holds {Q} p g = record { is = λ w v h b. subst Q h.2 (g h.0 (p.is w h.0 h.1 b)) }

pub either_holds : {A : Type 0} {L M : Language A} {P : A → Type 0} → Holds L P → Holds M P → Holds (Either L M) P
either_holds {A} {L} {M} {P} p q = record { is = λ w v h b. go w v h b }
  where
    go : (w : List Leaf) (v : A) → L w v ⊎ M w v → HaveWords w → P v
    go w v (inl h) b = p.is w v h b
    go w v (inr h) b = q.is w v h b

pub repeats : {A : Type 0} {L : Language A} {P : A → Type 0} → Holds L P → (w : List Leaf) (v : List A) → Repeated L w v → HaveWords w
    → All P v
repeats {P} p w [] h b = all_none P
repeats {P} p w (a ∷ others) h b =
    let r = both_have h.0 h.1 (subst HaveWords h.2 b) in all_cons P a others (p.is h.0 a h.3 r.0) (repeats p h.1 others h.4 r.1)

pub repeated_holds : {A : Type 0} {L : Language A} {P : A → Type 0} → Holds L P → Holds (Repeated L) (All P)
repeated_holds p = record { is = λ w v h b. repeats p w v h b }

-- holds of what is there
abbrev pub if_some : {A : Type 0} → (A → Type 0) → Option A → Type 0
if_some P None = Unit {0}
if_some P (Some a) = P a

pub once_holds : {A : Type 0} {L : Language A} {P : A → Type 0} → Holds L P → Holds (AtMostOnce L) (if_some P)
once_holds {A} {L} {P} p = record { is = λ w v h b. go w v h b }
  where
    go : (w : List Leaf) (v : Option A) → AtMostOnce L w v → HaveWords w → if_some P v
    go w None h b = tt
    go w (Some a) h b = p.is w a h b

pub after_holds : {A : Type 0} {L : Language A} {P : A → Type 0} (k : TokenKind) → Holds L P → Holds (After k L) P
after_holds k p = meaning_holds (second_holds _ p) (λ a h. h)

pub before_holds : {A : Type 0} {L : Language A} {P : A → Type 0} (k : TokenKind) → Holds L P → Holds (Before L k) P
before_holds k p = meaning_holds (first_holds _ p) (λ a h. h)

pub between_holds : {A : Type 0} {L : Language A} {P : A → Type 0} (s t : TokenKind) → Holds L P → Holds (Between s L t) P
between_holds s t p = after_holds s (before_holds t p)

pub parens_hold : {A : Type 0} {L : Language A} {P : A → Type 0} → Holds L P → Holds (Parens L) P
parens_hold p = between_holds (sign marks.OpenParen) (sign marks.CloseParen) p

pub brackets_hold : {A : Type 0} {L : Language A} {P : A → Type 0} → Holds L P → Holds (Brackets L) P
brackets_hold p = between_holds (sign marks.OpenBracket) (sign marks.CloseBracket) p

pub separated_holds : {A : Type 0} {L : Language A} {P : A → Type 0} → Holds L P → Holds (Separated L) (All P)
separated_holds {P} p = meaning_holds (then_holds p (repeated_holds (after_holds (sign marks.Comma) p))) (λ a h. all_cons P a.0 a.1 h.0 h.1)

pub listed_holds : {A : Type 0} {L : Language A} {P : A → Type 0} → Holds L P → Holds (Listed L) (All P)
listed_holds {A} {L} {P} p = record { is = λ w v h b. subst (All P) h.2 (go w h.0 h.1 b) }
  where
    go : (w : List Leaf) (o : Option (List A)) → AtMostOnce (Separated L) w o → HaveWords w → All P (listed o)
    go w None h b = all_none P
    go w (Some xs) h b = (separated_holds p).is w xs h b
