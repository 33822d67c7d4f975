-- The parser of each way to build lines meets its language, and kinds of tokens.
use Rattle.std.proofs.Common.{◌≡◌, ℕ, Bool, true, false, cond, eqb, List, [], ◌∷◌, ◌++◌, Option, Some, None, refl, ap, eq-eqb}
use Rattle.query_lang.specs.declared.{fault.Span.Span, fold.Op.Op, token.{TokenKind.TokenKind, Token.Token}}
use Rattle.query_grammar.specs.{Language.{Role, Plain, Node, Language, Word}, Parser.{Limits, Parser, word}}
use Rattle.query_grammar.specs.Kinds.{one_of, among, kind, kind_number, is, name, name_of, number, token_number, operator, kinds_of, sign}
use Rattle.query_grammar.specs.Grammar.{After, Before, Parens, Brackets, Separated, Listed, Operators}
use Rattle.query_grammar.{specs.Reading.{after, before, parens, brackets, separated, listed_by}, proofs.{Parses.is_some_of, Lines.disjoint}}
use Rattle.query_grammar.proofs.Lines.{Line, line_word, line_then, line_then_null, line_null_then, line_once, line_repeated, line_meaning}
use Rattle.query_lang.specs.declared.token.Mark.TheVariants as marks
use Rattle.query_lang.specs.declared.token.TokenKind.TheVariants as kinds

-- ---- words

abbrev no_span : Option Span
no_span = None

pub is_kind : (wanted : TokenKind) (t : Token) → is_some_of (is wanted t) ≡ true → among (kind_number wanted ∷ []) t ≡ true
is_kind wanted t h = go (eqb (kind t) (kind_number wanted)) h
  where
    go : (b : Bool) → is_some_of (cond b (Some t.span) no_span) ≡ true → cond b true false ≡ true
    go true h = refl
    go false h = absurd cc

pub operator_kind : (ops : Operators) (t : Token) → is_some_of (operator ops t) ≡ true → among (kinds_of ops) t ≡ true
operator_kind [] t h = absurd cc
operator_kind (o ∷ others) t h = go (eqb (kind t) (kind_number o.0)) (operator_kind others t) h
  where
    go : (b : Bool) → (is_some_of (operator others t) ≡ true → among (kinds_of others) t ≡ true)
        → is_some_of (cond b (Some (o.1, t.span)) (operator others t)) ≡ true → cond b true (among (kinds_of others) t) ≡ true
    go true ih h = refl
    go false ih h = ih h

pub name_kind_of : (k : TokenKind) (span : Span) → is_some_of (name_of k span) ≡ true → one_of (0 ∷ []) (kind_number k) ≡ true
name_kind_of (kinds.Name id) span h = refl
name_kind_of (kinds.Number n) span h = absurd cc
name_kind_of kinds.FiveTuple span h = absurd cc
name_kind_of (kinds.Word w) span h = absurd cc
name_kind_of (kinds.Mark m) span h = absurd cc
name_kind_of kinds.End span h = absurd cc

pub number_kind_of : (k : TokenKind) (span : Span) → is_some_of (token_number k span) ≡ true → one_of (1 ∷ []) (kind_number k) ≡ true
number_kind_of (kinds.Number n) span h = refl
number_kind_of (kinds.Name id) span h = absurd cc
number_kind_of kinds.FiveTuple span h = absurd cc
number_kind_of (kinds.Word w) span h = absurd cc
number_kind_of (kinds.Mark m) span h = absurd cc
number_kind_of kinds.End span h = absurd cc

abbrev pub no_place : Span
no_place = record { start = 0; end = 0 }

abbrev pub sample_of : TokenKind → Token
sample_of k = record { kind = k; span = no_place }

pub is_itself : (k : TokenKind) → is k (sample_of k) ≡ Some no_place
is_itself k = ap (λ (b : Bool). cond b (Some no_place) no_span) (eq-eqb (kind_number k) (kind_number k) refl)

pub line_is : (m : Limits) (role : Role) (k : TokenKind) → one_of (kind_number k ∷ []) 3 ≡ false
    → Line m (Word role (is k)) (word m role (is k)) (kind_number k ∷ []) [] false
line_is m role k other = line_word (kind_number k ∷ []) (sample_of k) no_place (is_itself k) other (is_kind k)

pub line_operator : (m : Limits) (ops : Operators) (k : TokenKind) (op : Op) → operator ops (sample_of k) ≡ Some (op, no_place)
    → one_of (kinds_of ops) 3 ≡ false → Line m (Word Node (operator ops)) (word m Node (operator ops)) (kinds_of ops) [] false
line_operator m ops k op e other = line_word (kinds_of ops) (sample_of k) (op, no_place) e other (operator_kind ops)

pub line_name : (m : Limits) (role : Role) → Line m (Word role name) (word m role name) (0 ∷ []) [] false
line_name m role = line_word (0 ∷ []) (sample_of (kinds.Name 0)) (record { id = 0; span = no_place }) refl refl
    (λ t h. name_kind_of t.kind t.span h)

pub line_number : (m : Limits) (role : Role) → Line m (Word role number) (word m role number) (1 ∷ []) [] false
line_number m role = line_word (1 ∷ []) (sample_of (kinds.Number 0)) (0, no_place) refl refl (λ t h. number_kind_of t.kind t.span h)

-- ---- signs and words around, and lists

pub disjoint_nil : (xs : List ℕ) → disjoint xs [] ≡ true
disjoint_nil [] = refl
disjoint_nil (x ∷ xs) = disjoint_nil xs

pub line_after : {A : Type 0} {m : Limits} {L : Language A} {p : Parser A} {xs ys : List ℕ} → (k : TokenKind)
    → one_of (kind_number k ∷ []) 3 ≡ false → Line m L p xs ys false → Line m (After k L) (after m k p) (kind_number k ∷ []) ys false
line_after {A} {m} {L} {p} {xs} {ys} k e f = line_meaning (line_then (line_is m Plain k e) f (disjoint_nil xs))

pub line_before : {A : Type 0} {m : Limits} {L : Language A} {p : Parser A} {xs ys : List ℕ} → (k : TokenKind)
    → one_of (kind_number k ∷ []) 3 ≡ false → Line m L p xs ys false → disjoint (kind_number k ∷ []) ys ≡ true
    → Line m (Before L k) (before m p k) xs [] false
line_before {A} {m} k e f d = line_meaning (line_then f (line_is m Plain k e) d)

pub line_before_null : {A : Type 0} {m : Limits} {L : Language A} {p : Parser A} {xs ys : List ℕ} → (k : TokenKind)
    → one_of (kind_number k ∷ []) 3 ≡ false → Line m L p xs ys true → disjoint (kind_number k ∷ []) ys ≡ true
    → Line m (Before L k) (before m p k) (xs ++ (kind_number k ∷ [])) [] false
line_before_null {A} {m} k e f d = line_meaning (line_null_then f (line_is m Plain k e) d)

pub line_parens : {A : Type 0} {m : Limits} {L : Language A} {p : Parser A} {xs ys : List ℕ} → Line m L p xs ys false
    → disjoint (25 ∷ []) ys ≡ true → Line m (Parens L) (parens m p) (24 ∷ []) [] false
line_parens f d = line_after (sign marks.OpenParen) refl (line_before (sign marks.CloseParen) refl f d)

pub line_parens_null : {A : Type 0} {m : Limits} {L : Language A} {p : Parser A} {xs ys : List ℕ} → Line m L p xs ys true
    → disjoint (25 ∷ []) ys ≡ true → Line m (Parens L) (parens m p) (24 ∷ []) [] false
line_parens_null f d = line_after (sign marks.OpenParen) refl (line_before_null (sign marks.CloseParen) refl f d)

pub line_brackets : {A : Type 0} {m : Limits} {L : Language A} {p : Parser A} {xs ys : List ℕ} → Line m L p xs ys false
    → disjoint (27 ∷ []) ys ≡ true → Line m (Brackets L) (brackets m p) (26 ∷ []) [] false
line_brackets f d = line_after (sign marks.OpenBracket) refl (line_before (sign marks.CloseBracket) refl f d)

pub line_brackets_null : {A : Type 0} {m : Limits} {L : Language A} {p : Parser A} {xs ys : List ℕ} → Line m L p xs ys true
    → disjoint (27 ∷ []) ys ≡ true → Line m (Brackets L) (brackets m p) (26 ∷ []) [] false
line_brackets_null f d = line_after (sign marks.OpenBracket) refl (line_before_null (sign marks.CloseBracket) refl f d)

-- L { "," L }
pub line_separated : {A : Type 0} {m : Limits} {L : Language A} {p : Parser A} {xs ys : List ℕ} → Line m L p xs ys false
    → disjoint (30 ∷ []) ys ≡ true → Line m (Separated L) (separated m p) xs (ys ++ ((30 ∷ []) ++ ys)) false
line_separated f d = line_meaning (line_then_null f (line_repeated (line_after (sign marks.Comma) refl f) d) d)

-- [ L { "," L } ]
pub line_listed : {A : Type 0} {m : Limits} {L : Language A} {p : Parser A} {xs ys : List ℕ} → Line m L p xs ys false
    → disjoint (30 ∷ []) ys ≡ true → Line m (Listed L) (listed_by m xs p) xs (xs ++ (ys ++ ((30 ∷ []) ++ ys))) true
line_listed f d = line_meaning (line_once (line_separated f d))

pub line_comma : {A : Type 0} {m : Limits} {L : Language A} {p : Parser A} {xs ys : List ℕ} → Line m L p xs ys false
    → Line m (After (sign marks.Comma) L) (after m (sign marks.Comma) p) (30 ∷ []) ys false
line_comma f = line_after (sign marks.Comma) refl f
