-- More brackets derive no less.
use Rattle.std.proofs.Common.{subst, ◌≡◌, ℕ, zero, suc, ◌≤◌, ◌<◌, List, [], ◌∷◌, Option, Some, None, arith, inl, inr, ◌⊎◌}
use Rattle.std.proofs.lemmas.Bool.{cases_lt}
use Rattle.query_lang.specs.declared.{query.{Expr.Expr, Stmt.Stmt}, token.TokenKind.TokenKind}
use Rattle.query_grammar.specs.Language.{Leaf, Language, Then, Repeated, AtMostOnce, Either, Meaning, Chain, Chained}
use Rattle.query_grammar.specs.{Kinds.{sign, keyword}, Grammar.{list_of, listed, Token_of, Plain_name, After, Before, Between, Parens}}
use Rattle.query_grammar.specs.Grammar.{Brackets, Separated, Listed, Operators, either_ops, both_ops, or_ops, xor_ops, and_ops, shift_ops}
use Rattle.query_grammar.specs.Grammar.{sum_ops, product_ops, Level, Atom, Unary, Product, Sum, Shift, BitAnd, BitXor, BitOr, Comparison}
use Rattle.query_grammar.specs.Grammar.{Conjunction, Disjunction, Expression, Assignment, Emission, Block, IfPart, ElsePart, IfStatement}
use Rattle.query_grammar.specs.Grammar.{Statement_at, Fold, Filter, ColumnOf, Mapping, Stream, Final, Print, Query}
use Rattle.query_lang.specs.declared.token.Word.TheVariants as words
use Rattle.query_lang.specs.declared.token.Mark.TheVariants as marks

-- each word of the first language is one of the second, with the same meaning
pub record Within {A : Type 0} (L M : Language A) : Type 0 where
  pub is : (w : List Leaf) (v : A) → L w v → M w v

same : {A : Type 0} (L : Language A) → Within L L
same L = record { is = λ w v h. h }

then_in : {A B : Type 0} {L L' : Language A} {M M' : Language B} → Within L L' → Within M M' → Within (Then L M) (Then L' M')
then_in f g = record { is = λ w v h. (h.0, h.1, h.2, f.is h.0 v.0 h.3, g.is h.1 v.1 h.4) }

meaning_in : {A B : Type 0} {f : A → B} {L L' : Language A} → Within L L' → Within (Meaning f L) (Meaning f L')
meaning_in g = record { is = λ w v h. (h.0, g.is w h.0 h.1, h.2) }

either_in : {A : Type 0} {L L' M M' : Language A} → Within L L' → Within M M' → Within (Either L M) (Either L' M')
either_in {A} {L} {L'} {M} {M'} f g = record { is = λ w v h. go w v h }
  where
    go : (w : List Leaf) (v : A) → L w v ⊎ M w v → L' w v ⊎ M' w v
    go w v (inl h) = inl (f.is w v h)
    go w v (inr h) = inr (g.is w v h)

once_in : {A : Type 0} {L L' : Language A} → Within L L' → Within (AtMostOnce L) (AtMostOnce L')
once_in {A} {L} {L'} f = record { is = λ w v h. go w v h }
  where
    go : (w : List Leaf) (v : Option A) → AtMostOnce L w v → AtMostOnce L' w v
    go w None h = h
    go w (Some a) h = f.is w a h

repeats : {A : Type 0} (L L' : Language A) → Within L L' → (w : List Leaf) (v : List A) → Repeated L w v → Repeated L' w v
repeats L L' f w [] h = h
repeats L L' f w (a ∷ others) h = (h.0, h.1, h.2, f.is h.0 a h.3, repeats L L' f h.1 others h.4)

repeated_in : {A : Type 0} {L L' : Language A} → Within L L' → Within (Repeated L) (Repeated L')
repeated_in {A} {L} {L'} f = record { is = repeats L L' f }

links_in : {A B : Type 0} (T T' : Language (A ⊎ B)) → Within T T' → (w : List Leaf) (v : List A) (o : Option B) → Chain T w v o
    → Chain T' w v o
links_in T T' f w [] None h = h
links_in T T' f w [] (Some b) h = f.is w (inr b) h
links_in T T' f w (a ∷ others) o h = (h.0, h.1, h.2, f.is h.0 (inl a) h.3, links_in T T' f h.1 others o h.4)

chained_in : {A B : Type 0} {T T' : Language (A ⊎ B)} → Within T T' → Within (Chained T) (Chained T')
chained_in {A} {B} {T} {T'} f = record { is = λ w v h. links_in T T' f w v.0 v.1 h }

left_in : {A : Type 0} (L M : Language A) → Within L (Either L M)
left_in L M = record { is = λ w v h. inl h }

after_in : {A : Type 0} {L L' : Language A} → (k : TokenKind) → Within L L' → Within (After k L) (After k L')
after_in k f = meaning_in (then_in (same (Token_of k)) f)

before_in : {A : Type 0} {L L' : Language A} → (k : TokenKind) → Within L L' → Within (Before L k) (Before L' k)
before_in k f = meaning_in (then_in f (same (Token_of k)))

between_in : {A : Type 0} {L L' : Language A} → (s t : TokenKind) → Within L L' → Within (Between s L t) (Between s L' t)
between_in s t f = after_in s (before_in t f)

parens_in : {A : Type 0} {L L' : Language A} → Within L L' → Within (Parens L) (Parens L')
parens_in f = between_in (sign marks.OpenParen) (sign marks.CloseParen) f

brackets_in : {A : Type 0} {L L' : Language A} → Within L L' → Within (Brackets L) (Brackets L')
brackets_in f = between_in (sign marks.OpenBracket) (sign marks.CloseBracket) f

separated_in : {A : Type 0} {L L' : Language A} → Within L L' → Within (Separated L) (Separated L')
separated_in f = meaning_in {f = list_of} (then_in f (repeated_in (after_in (sign marks.Comma) f)))

listed_in : {A : Type 0} {L L' : Language A} → Within L L' → Within (Listed L) (Listed L')
listed_in f = meaning_in {f = listed} (once_in (separated_in f))

level_in : {P P' : Language Expr} → (ops : Operators) → Within P P' → Within (Level ops P) (Level ops P')
level_in ops f = meaning_in (then_in f (repeated_in (then_in (same _) f)))

disjunction_in : {P P' : Language Expr} → Within P P' → Within (Disjunction P) (Disjunction P')
disjunction_in {P} {P'} f =
    let un : Within (Unary P) (Unary P') = meaning_in (then_in (same _) f) in
    let pr : Within (Product P) (Product P') = level_in product_ops un in
    let su : Within (Sum P) (Sum P') = level_in sum_ops pr in
    let sh : Within (Shift P) (Shift P') = level_in shift_ops su in
    let an : Within (BitAnd P) (BitAnd P') = level_in and_ops sh in
    let xo : Within (BitXor P) (BitXor P') = level_in xor_ops an in
    let bo : Within (BitOr P) (BitOr P') = level_in or_ops xo in
    let co : Within (Comparison P) (Comparison P') = meaning_in (then_in bo (once_in (then_in (same _) bo))) in
    let cj : Within (Conjunction P) (Conjunction P') = level_in both_ops co in
    level_in either_ops cj

expr_in : (d : ℕ) → Within (Expression d) (Expression (suc d))
expr_in zero = disjunction_in (left_in _ _)
expr_in (suc d) = let f = expr_in d in disjunction_in (either_in (same Atom)
    (either_in (parens_in f) (meaning_in (then_in (same _) (parens_in (listed_in f))))))

assignment_in : {E E' : Language Expr} → Within E E' → Within (Assignment E) (Assignment E')
assignment_in f = meaning_in (then_in (same _) (between_in (sign marks.Assign) (sign marks.Semicolon) f))

block_in : {S S' : Language Stmt} → Within S S' → Within (Block S) (Block S')
block_in f = between_in (sign marks.OpenBrace) (sign marks.CloseBrace) (repeated_in f)

if_in : {E E' : Language Expr} {S S' : Language Stmt} → Within E E' → Within S S' → Within (IfStatement E S) (IfStatement E' S')
if_in {E} {E'} {S} {S'} f g =
    let b : Within (Block S) (Block S') = block_in g in
    let p : Within (IfPart E S) (IfPart E' S') = then_in (same _) (then_in (parens_in f) b) in
    let e : Within (ElsePart E S) (ElsePart E' S') = after_in (keyword words.Else) (either_in (meaning_in b) (meaning_in p)) in
    meaning_in (then_in p (chained_in e))

stmt_in : (d : ℕ) → Within (Statement_at d) (Statement_at (suc d))
stmt_in zero = record { is = λ w v h. inl ((assignment_in (expr_in 0)).is w v h) }
stmt_in (suc d) = either_in (assignment_in (expr_in (suc d))) (either_in (if_in (expr_in d) (stmt_in d)) (same Emission))

filter_in : {E E' : Language Expr} → Within E E' → Within (Filter E) (Filter E')
filter_in f = after_in (keyword words.Filter) (parens_in (then_in (same Plain_name) (after_in (sign marks.Comma) f)))

mapping_in : {E E' : Language Expr} → Within E E' → Within (Mapping E) (Mapping E')
mapping_in {E} {E'} f =
    let c : Within (ColumnOf E) (ColumnOf E') = meaning_in (then_in (same Plain_name) (after_in (sign marks.Assign) f)) in
    after_in (keyword words.Map) (parens_in (then_in (same Plain_name) (after_in (sign marks.Comma) (brackets_in (separated_in c)))))

stream_in : {E E' : Language Expr} → Within E E' → Within (Stream E E) (Stream E' E')
stream_in f = meaning_in (then_in (same _) (between_in (sign marks.Assign) (sign marks.Semicolon)
    (either_in (meaning_in (filter_in f)) (either_in (meaning_in (mapping_in f)) (same _)))))

final_in : {E E' : Language Expr} → Within E E' → Within (Final E E) (Final E' E')
final_in f = meaning_in (then_in (same _) (then_in (same Plain_name) (between_in (sign marks.Assign) (sign marks.Semicolon)
    (either_in (meaning_in (filter_in f)) (either_in (meaning_in (mapping_in f)) (same _))))))

fold_in : (d : ℕ) → Within (Fold d) (Fold (suc d))
fold_in d = meaning_in (then_in (same _) (then_in (same _) (then_in (same _) (block_in (stmt_in d)))))

query_in : (d : ℕ) → Within (Query d) (Query (suc d))
query_in d = then_in (repeated_in (either_in (fold_in d) (either_in (stream_in (expr_in d))
    (either_in (final_in (expr_in d)) (same Print))))) (same _)

next_query : (n d : ℕ) → (d ≤ n → Within (Query d) (Query n)) → d ≤ suc n → Within (Query d) (Query (suc n))
next_query n d f le = go (cases_lt n d)
  where
    go : (n < d) ⊎ (d ≤ n) → Within (Query d) (Query (suc n))
    go (inl h) = let e : d ≡ suc n = omega arith in subst (λ (k : ℕ). Within (Query d) (Query k)) e (same (Query d))
    go (inr h) = record { is = λ w v q. (query_in n).is w v ((f h).is w v q) }

pub deeper_query : (n d : ℕ) → d ≤ n → Within (Query d) (Query n)
deeper_query zero d le = let e : d ≡ 0 = omega arith in subst (λ (k : ℕ). Within (Query d) (Query k)) e (same (Query d))
deeper_query (suc n) d le = next_query n d (λ h. deeper_query n d h) le
