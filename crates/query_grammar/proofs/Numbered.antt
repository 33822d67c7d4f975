-- The names of a query that is read from a text have numbers below the count of its names, and its groupbys have keys.
use Rattle.std.proofs.Common.{◌≡◌, ℕ, ◌+◌, ◌<◌, ◌≤◌, List, [], ◌∷◌, ◌++◌, length, take, Option, Some, None, ap}
use Rattle.std.proofs.{Common.{subst, arith, inl, inr, ◌⊎◌}, lemmas.Option.{slice_get_within, same_Some}}
use Rattle.std.specs.Prelude.{All}
use Rattle.query_lang.{proofs.NameFacts.{has_number, with_bounds}, specs.{Lexis.{cut, token_at}, Names.{number_in, with_name}}}
use Rattle.query_lang.specs.declared.{query.{Column.Column, Expr.Expr, Name.Name, Query.Query, StateVar.StateVar}, token.Token.Token}
use Rattle.query_lang.specs.{declared.token.{TokenKind.TokenKind, Word.Word}, Limits.{AreNumbered, HasFinalKeys, HasKeys, HasStreamKeys}}
use Rattle.query_lang.specs.Limits.{IsNumbered, IsNumberedFinal, IsNumberedStream, IsReadable}
use Rattle.query_grammar.specs.Grammar.{After, Before, Between, Expression, Final, Fold, Group, ItemOf, KeyOf, Listed, Mapping, Parameters}
use Rattle.query_grammar.specs.{Grammar.{Query as Whole, Separated, Stream, listed}, Kinds.{keyword, name, sign}}
use Rattle.query_grammar.specs.{Language.{AtMostOnce, Either, Language, Leaf, Meaning, Repeated, Role, Then}, Texts.IsQueryOf}
use Rattle.query_grammar.proofs.{FewNames.few_names, CutTexts.{IsCut, ends, skips, named, other, text_is_cut}}
use Rattle.query_grammar.proofs.ItemWeights.{accepted_keeps, all_cons, all_none}
use Rattle.query_lang.specs.declared.token.Mark.TheVariants as marks
use Rattle.query_lang.specs.declared.token.TokenKind.TheVariants as kinds
use Rattle.query_lang.specs.declared.token.Word.TheVariants as words
use Rattle.query_grammar.specs.Language as language

-- ---- the tokens of a text

abbrev pub IsBelow : ℕ → Token → Type 0
IsBelow most t = (n : Name) → name t ≡ Some n → n.id < most

abbrev pub TokensBelow : ℕ → List Token → Type 0
TokensBelow most [] = Unit {0}
TokensBelow most (t ∷ ts) = IsBelow most t × TokensBelow most ts

number_within : (known : List (List ℕ)) (w : List ℕ) → number_in known w < length (with_name known w)
number_within known w = slice_get_within (with_name known w) (number_in known w) w (has_number known w)

name_below : (id : ℕ) (start end most : ℕ) → id < most → IsBelow most (token_at (kinds.Name id) start end)
name_below id start end most lt n e = let same : id ≡ n.id = ap (λ (m : Name). m.id) (same_Some _ _ e) in omega (arith, same, lt)

cut_numbers : {known names : List (List ℕ)} {bytes : List ℕ} {tokens : List Token} → IsCut known bytes tokens names
    → (length known ≤ length names) × TokensBelow (length names) tokens
cut_numbers (ends at) = (omega arith, ((λ n q. absurd (cc q)), tt))
cut_numbers (skips n some within c) = cut_numbers c
cut_numbers {known} {bytes = bytes} (named n at some within begins same c) =
    let (more, below) = cut_numbers c in
    let w = take n bytes in (
      omega (arith, more, (with_bounds known w).0),
      (name_below (number_in known w) at (at + n) _ (omega (arith, more, number_within known w)), below),
    )
cut_numbers (other kind n at some within is c) =
    let (more, below) = cut_numbers c in
    (more, ((λ m q. absurd (is (record { start = at; end = at + n }) m q)), below))

-- ---- what the words of the grammar name

abbrev LeavesBelow : ℕ → List Leaf → Type 0
LeavesBelow most [] = Unit {0}
LeavesBelow most (l ∷ w) = IsBelow most l.token × LeavesBelow most w

leaves_below : (most : ℕ) (w : List Leaf) → TokensBelow most (language.tokens_of w) → LeavesBelow most w
leaves_below most [] h = tt
leaves_below most (l ∷ w) h = (h.0, leaves_below most w h.1)

below_both : (most : ℕ) (u w : List Leaf) → LeavesBelow most (u ++ w) → LeavesBelow most u × LeavesBelow most w
below_both most [] w h = (tt, h)
below_both most (l ∷ u) w h = let r = below_both most u w h.1 in ((h.0, r.0), r.1)

pub record Names {A : Type 0} (most : ℕ) (L : Language A) (P : A → Type 0) : Type 0 where
  pub is : (w : List Leaf) (v : A) → L w v → LeavesBelow most w → P v

abbrev any : {A : Type 0} → A → Type 0
any v = Unit {0}

any_names : {A : Type 0} {most : ℕ} {L : Language A} → Names most L any
any_names = record { is = λ w v h b. tt }

abbrev below : ℕ → Name → Type 0
below most n = n.id < most

-- where what is named inside doesn't matter
unnamed : {A B : Type 0} {most : ℕ} {L : Language A} {f : A → B} {Q : B → Type 0} → ((a : A) → Q (f a)) → Names most (Meaning f L) Q
unnamed {Q = Q} g = record { is = λ w v h b. subst Q h.2 (g h.0) }

word_names : {most : ℕ} {role : Role} → Names most (language.Word role name) (below most)
word_names {most} {role} = record { is = λ w v h b. (subst (LeavesBelow most) h.1 b).0 v h.2 }

then_names : {A B : Type 0} {most : ℕ} {L : Language A} {M : Language B} {P : A → Type 0} {Q : B → Type 0} → Names most L P → Names most M Q
    → Names most (Then L M) (λ v. P v.0 × Q v.1)
then_names {most = most} p q = record {
  is = λ w v h b. let r = below_both most h.0 h.1 (subst (LeavesBelow most) h.2 b)
      in (p.is h.0 v.0 h.3 r.0, q.is h.1 v.1 h.4 r.1);
}

meaning_names : {A B : Type 0} {most : ℕ} {L : Language A} {f : A → B} {P : A → Type 0} {Q : B → Type 0} → Names most L P
    → ((a : A) → P a → Q (f a)) → Names most (Meaning f L) Q
meaning_names {Q = Q} p g = record { is = λ w v h b. subst Q h.2 (g h.0 (p.is w h.0 h.1 b)) }

either_names : {A : Type 0} {most : ℕ} {L M : Language A} {P : A → Type 0} → Names most L P → Names most M P → Names most (Either L M) P
either_names {A} {most} {L} {M} {P} p q = record { is = go }
  where
    go : (w : List Leaf) (v : A) → L w v ⊎ M w v → LeavesBelow most w → P v
    go w v (inl h) b = p.is w v h b
    go w v (inr h) b = q.is w v h b

repeated_names : {A : Type 0} {most : ℕ} {L : Language A} {P : A → Type 0} → Names most L P → Names most (Repeated L) (All P)
repeated_names {A} {most} {L} {P} p = record { is = λ w v h b. go v w h b }
  where
    go : (v : List A) (w : List Leaf) → Repeated L w v → LeavesBelow most w → All P v
    go [] w h b = all_none P
    go (a ∷ others) w h b =
        let r = below_both most h.0 h.1 (rw (← h.2) b) in
        all_cons P a others (p.is h.0 a h.3 r.0) (go others h.1 h.4 r.1)

after_names : {A : Type 0} {most : ℕ} {L : Language A} {P : A → Type 0} (k : TokenKind) → Names most L P → Names most (After k L) P
after_names k p = meaning_names (then_names any_names p) (λ a h. h.1)

before_names : {A : Type 0} {most : ℕ} {L : Language A} {P : A → Type 0} (k : TokenKind) → Names most L P → Names most (Before L k) P
before_names k p = meaning_names (then_names p any_names) (λ a h. h.0)

between_names : {A : Type 0} {most : ℕ} {L : Language A} {P : A → Type 0} (s t : TokenKind) → Names most L P → Names most (Between s L t) P
between_names s t p = after_names s (before_names t p)

separated_names : {A : Type 0} {most : ℕ} {L : Language A} {P : A → Type 0} → Names most L P → Names most (Separated L) (All P)
separated_names {P = P} p = meaning_names (then_names p (repeated_names (after_names (sign marks.Comma) p)))
    (λ a h. all_cons P a.0 a.1 h.0 h.1)

listed_names : {A : Type 0} {most : ℕ} {L : Language A} {P : A → Type 0} → Names most L P → Names most (Listed L) (All P)
listed_names {A} {most} {L} {P} p = record { is = λ w v h b. subst (All P) h.2 (go w h.0 h.1 b) }
  where
    go : (w : List Leaf) (o : Option (List A)) → AtMostOnce (Separated L) w o → LeavesBelow most w → All P (listed o)
    go w None h b = all_none P
    go w (Some xs) h b = (separated_names p).is w xs h b

abbrev state_below : ℕ → StateVar → Type 0
state_below most s = s.name.id < most

parameters_names : (most : ℕ) → Names most Parameters (λ v. All (state_below most) v.0 × All (below most) v.1)
parameters_names most = between_names (sign marks.OpenParen) (sign marks.CloseParen) (then_names
    (between_names (sign marks.OpenBracket) (sign marks.CloseBracket)
    (listed_names {P = state_below most} (meaning_names (then_names word_names any_names) (λ a h. h.0))))
    (after_names (sign marks.Comma) (between_names (sign marks.OpenBracket) (sign marks.CloseBracket) (listed_names word_names))))

fold_names : (most d : ℕ) → Names most (Fold d) (IsNumbered most)
fold_names most d = meaning_names (then_names any_names
    (then_names word_names (then_names (parameters_names most) any_names))) (λ a h. (h.1.0, h.1.1.0.0, h.1.1.0.1))

abbrev column_below : ℕ → Column → Type 0
column_below most c = c.name.id < most

second_names : {A B : Type 0} {most : ℕ} {L : Language (A × B)} (Q : B → Type 0) → Names most L (λ v. any v.0 × Q v.1)
    → Names most L (λ v. Q v.1)
second_names Q p = record { is = λ w v h b. (p.is w v h b).1 }

mapping_names : (E : Language Expr) (most : ℕ) → Names most (Mapping E) (λ v. AreNumbered most v.1)
mapping_names E most = after_names (keyword words.Map) (between_names (sign marks.OpenParen) (sign marks.CloseParen)
    (second_names (All (column_below most)) (then_names any_names (after_names (sign marks.Comma)
    (between_names (sign marks.OpenBracket) (sign marks.CloseBracket)
    (separated_names {P = column_below most} (meaning_names (then_names word_names any_names) (λ a h. h.0))))))))

stream_names : (E : Language Expr) (most : ℕ) → Names most (Stream E E) (IsNumbered most)
stream_names E most = meaning_names (then_names word_names (between_names {P = IsNumberedStream most} (sign marks.Assign)
    (sign marks.Semicolon)
    (either_names (unnamed (λ a. tt)) (either_names (meaning_names (mapping_names E most) (λ a h. h)) (either_names (unnamed (λ a. tt))
    (unnamed (λ a. tt))))))) (λ a h. h)

final_names : (E : Language Expr) (most : ℕ) → Names most (Final E E) (IsNumbered most)
final_names E most = meaning_names (then_names any_names (then_names word_names
    (between_names {P = IsNumberedFinal most} (sign marks.Assign) (sign marks.Semicolon)
    (either_names (unnamed (λ a. tt)) (either_names (meaning_names (mapping_names E most) (λ a h. h)) (either_names (unnamed (λ a. tt))
    (either_names (unnamed (λ a. tt)) (unnamed (λ a. tt))))))))) (λ a h. h.1)

item_names : (most d : ℕ) → Names most (ItemOf d) (IsNumbered most)
item_names most d = either_names (fold_names most d) (either_names (stream_names (Expression d) most)
    (either_names (final_names (Expression d) most) (unnamed (λ a. tt))))

query_names : (most d : ℕ) → Names most (Whole d) (λ q. All (IsNumbered most) q.0)
query_names most d = record {
  is = λ w q h b. let r = below_both most h.0 h.1 (subst (LeavesBelow most) h.2 b) in (repeated_names (item_names most d)).is h.0 q.0 h.3
      r.0;
}

-- ---- the keys of groupbys

abbrev SomeOf : {A : Type 0} → List A → Type 0
SomeOf xs = 0 < length xs

separated_some : {A : Type 0} {most : ℕ} (L : Language A) → Names most (Separated L) SomeOf
separated_some L = meaning_names any_names (λ a h. omega arith)

first_names : {A B : Type 0} {most : ℕ} {L : Language (A × B)} (P : A → Type 0) → Names most L (λ v. P v.0 × any v.1)
    → Names most L (λ v. P v.0)
first_names P p = record { is = λ w v h b. (p.is w v h b).0 }

group_keys : {most : ℕ} → Names most Group (λ v. SomeOf v.1.0)
group_keys = after_names (keyword words.Groupby) (between_names (sign marks.OpenParen) (sign marks.CloseParen)
    (second_names (λ v. SomeOf v.0) (then_names any_names (after_names (sign marks.Comma)
    (first_names SomeOf (then_names (between_names (sign marks.OpenBracket) (sign marks.CloseBracket) (separated_some KeyOf))
    any_names))))))

stream_keys : (E : Language Expr) (most : ℕ) → Names most (Stream E E) HasKeys
stream_keys E most = meaning_names (then_names any_names (between_names {P = HasStreamKeys} (sign marks.Assign) (sign marks.Semicolon)
    (either_names (unnamed (λ a. tt)) (either_names (unnamed (λ a. tt))
    (either_names (unnamed (λ a. tt)) (meaning_names group_keys (λ a h. h))))))) (λ a h. h.1)

final_keys : (E : Language Expr) (most : ℕ) → Names most (Final E E) HasKeys
final_keys E most = meaning_names (then_names any_names (then_names any_names
    (between_names {P = HasFinalKeys} (sign marks.Assign) (sign marks.Semicolon)
    (either_names (unnamed (λ a. tt)) (either_names (unnamed (λ a. tt))
    (either_names (meaning_names group_keys (λ a h. h)) (either_names (unnamed (λ a. tt)) (unnamed (λ a. tt))))))))) (λ a h. h.1.1)

item_keys : (most d : ℕ) → Names most (ItemOf d) HasKeys
item_keys most d = either_names (unnamed (λ a. tt))
    (either_names (stream_keys (Expression d) most) (either_names (final_keys (Expression d) most) (unnamed (λ a. tt))))

query_keys : (most d : ℕ) → Names most (Whole d) (λ q. All HasKeys q.0)
query_keys most d = record {
  is = λ w q h b. let r = below_both most h.0 h.1 (subst (LeavesBelow most) h.2 b) in (repeated_names (item_keys most d)).is h.0 q.0 h.3
      r.0;
}

-- ---- what is read can be checked

pub readable : (text : List ℕ) (q : Query) → IsQueryOf text q → IsReadable q
readable text q h =
    let most = length q.names in
    let c = text_is_cut text (h.tokens, q.names) h.cut in
    let below = leaves_below most h.accepted.leaves (rw h.accepted.tokens (cut_numbers c).1) in
    record {
      limits = accepted_keeps h.tokens (q.items, q.end) h.accepted;
      names = (query_names most h.accepted.depth).is h.accepted.leaves (q.items, q.end) h.accepted.means below;
      keys = (query_keys most h.accepted.depth).is h.accepted.leaves (q.items, q.end) h.accepted.means below;
      few = few_names h.short c;
    }
