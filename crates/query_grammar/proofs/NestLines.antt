-- The brackets of each line of the grammar.
use Rattle.std.proofs.Common.{◌≡◌, ℕ, zero, suc, true, List, [], ◌∷◌, ◌++◌, refl, arith}
use Rattle.query_lang.specs.declared.{fault.Span.Span, query.{Expr.Expr, Stmt.Stmt}, token.TokenKind.TokenKind}
use Rattle.query_grammar.specs.{Language.{Language, Then, Repeated, Either}, Parser.{Limited, Parser}}
use Rattle.query_grammar.specs.{Kinds.{among, kind_number, kinds_of, sign, keyword}, Grammar.{Token_of, After, Before, Between, Parens}}
use Rattle.query_grammar.specs.Grammar.{Brackets, Separated, Listed, Operators, either_ops, both_ops, comparing_ops, or_ops, xor_ops}
use Rattle.query_grammar.specs.Grammar.{and_ops, shift_ops, sum_ops, product_ops, functions, Level, Primary, Disjunction, Expression}
use Rattle.query_grammar.specs.Grammar.{Assignment, Emission, Block, IfPart, IfStatement, Statement_at, StateVariable, Parameters, Fold}
use Rattle.query_grammar.specs.{Grammar.{Filter, Mapping, Pairing, Group, Best, Stream, Final, Print}, Reading.{after, before, between}}
use Rattle.query_grammar.specs.Reading.{parens, brackets, separated, listed_by, atom_starts, expr_starts, level, primary, unary}
use Rattle.query_grammar.specs.Reading.{disjunction, expr_at, assignment, emission, empty_parens, stmt_starts, block, if_part, if_statement}
use Rattle.query_grammar.specs.Reading.{statement, stmt_at, state_variable, parameters, fold_def, filter_of, mapping, pairing, group, best}
use Rattle.query_grammar.specs.{Reading.{stream, final, print, item, item_starts, query}, Fault.{opening, closing, opens, closes}}
use Rattle.query_grammar.proofs.{Lines.disjoint, Nests.{Nests, nests_then, nests_both, nests_level, nests_mapped, nests_either, nests_once}}
use Rattle.query_grammar.proofs.Nests.{nests_repeated, nests_chained, nests_is, nests_keyword, nests_operator, nests_name, nests_number}
use Rattle.query_grammar.proofs.Nests.{nests_blocked}
use Rattle.query_lang.specs.declared.token.Word.TheVariants as words
use Rattle.query_lang.specs.declared.token.Mark.TheVariants as marks
use Rattle.query_lang.specs.declared.token.TokenKind.TheVariants as kinds

nests_after : {A : Type 0} {L : Language A} {p : Parser A} {e : ℕ} → (k : TokenKind)
    → disjoint (kind_number k ∷ []) (opening ++ closing) ≡ true → Nests L p 0 0 e → Nests (After k L) (after Limited k p) 0 0 e
nests_after {A} {L} {p} {e} k d f = nests_mapped (nests_both (nests_keyword k d) f)

nests_before : {A : Type 0} {L : Language A} {p : Parser A} {e : ℕ} → (k : TokenKind)
    → disjoint (kind_number k ∷ []) (opening ++ closing) ≡ true → Nests L p 0 0 e → Nests (Before L k) (before Limited p k) 0 0 e
nests_before {A} {L} {p} {e} k d f = nests_mapped (nests_both f (nests_keyword k d))

nests_between : {A : Type 0} {L : Language A} {p : Parser A} {e : ℕ} → (s t : TokenKind) → opens (kind_number s) ≡ 1
    → closes (kind_number s) ≡ 0 → opens (kind_number t) ≡ 0 → closes (kind_number t) ≡ 1 → Nests L p 0 0 e
    → Nests (Between s L t) (between Limited s p t) 0 0 (suc e)
nests_between {A} {L} {p} {e} s t os cs ot ct f =
    nests_level 0 0 (omega (arith, os, cs, ot, ct)) (nests_mapped (nests_then (nests_is {e = suc e} s (omega (arith, os)))
    (nests_mapped (nests_then f (nests_is {e = e} t (omega (arith, ot))) refl)) (omega (arith, os, cs))))

nests_parens : {A : Type 0} {L : Language A} {p : Parser A} {e : ℕ} → Nests L p 0 0 e → Nests (Parens L) (parens Limited p) 0 0 (suc e)
nests_parens f = nests_between (sign marks.OpenParen) (sign marks.CloseParen) refl refl refl refl f

nests_brackets : {A : Type 0} {L : Language A} {p : Parser A} {e : ℕ} → Nests L p 0 0 e
    → Nests (Brackets L) (brackets Limited p) 0 0 (suc e)
nests_brackets f = nests_between (sign marks.OpenBracket) (sign marks.CloseBracket) refl refl refl refl f

nests_comma : {A : Type 0} {L : Language A} {p : Parser A} {e : ℕ} → Nests L p 0 0 e
    → Nests (After (sign marks.Comma) L) (after Limited (sign marks.Comma) p) 0 0 e
nests_comma f = nests_after (sign marks.Comma) refl f

nests_separated : {A : Type 0} {L : Language A} {p : Parser A} {e : ℕ} → Nests L p 0 0 e → Nests (Separated L) (separated Limited p) 0 0 e
nests_separated f = nests_mapped (nests_both f (nests_repeated (among (30 ∷ [])) (nests_comma f)))

nests_listed : {A : Type 0} {L : Language A} {p : Parser A} {e : ℕ} → (xs : List ℕ) → Nests L p 0 0 e
    → Nests (Listed L) (listed_by Limited xs p) 0 0 e
nests_listed xs f = nests_mapped (nests_once (among xs) (nests_separated f))

nests_of_level : {L : Language Expr} {p : Parser Expr} {e : ℕ} → (ops : Operators) → disjoint (kinds_of ops) (opening ++ closing) ≡ true
    → Nests L p 0 0 e → Nests (Level ops L) (level Limited ops p) 0 0 e
nests_of_level {L} {p} {e} ops d f = nests_mapped (nests_both f (nests_repeated (among (kinds_of ops))
    (nests_both (nests_operator ops d) f)))

nests_disjunction : {P : Language Expr} {p : Parser Expr} {e : ℕ} → Nests P p 0 0 e → Nests (Disjunction P) (disjunction Limited p) 0 0 e
nests_disjunction f =
    let unary = nests_mapped (nests_both (nests_repeated (among (51 ∷ [])) (nests_keyword (sign marks.Bang) refl)) f) in
    let sums = nests_of_level sum_ops refl (nests_of_level product_ops refl unary) in
    let bits = nests_of_level or_ops refl (nests_of_level xor_ops refl
    (nests_of_level and_ops refl (nests_of_level shift_ops refl sums))) in
    let other = nests_once (among (kinds_of comparing_ops)) (nests_both (nests_operator comparing_ops refl) bits) in
    nests_of_level either_ops refl (nests_of_level both_ops refl (nests_mapped (nests_both bits other)))

nests_primary : {p : Parser Expr} {q : Parser (List Expr)} {e : ℕ} → (E : Language Expr) → Nests (Parens E) p 0 0 e
    → Nests (Parens (Listed E)) q 0 0 e → Nests (Primary E) (primary Limited p q) 0 0 e
nests_primary {p} {q} {e} E f g = nests_either (among atom_starts)
    (nests_either (among (1 ∷ [])) (nests_mapped nests_number) (nests_either (among (20 ∷ []))
    (nests_mapped (nests_keyword (keyword words.Infinity) refl)) (nests_mapped nests_name)))
    (nests_either (among (24 ∷ [])) f (nests_mapped (nests_both (nests_operator functions refl) g)))

nests_expr : (e : ℕ) → Nests (Expression (suc e)) (expr_at Limited e) 0 0 e
unfolding expr_at
nests_expr zero = nests_disjunction (nests_primary (Expression 0) (nests_blocked (Parens (Expression 0)) (sign marks.OpenParen) refl)
    (nests_blocked (Parens (Listed (Expression 0))) (sign marks.OpenParen) refl))
nests_expr (suc e) = let f = nests_expr e in nests_disjunction (nests_primary (Expression (suc e)) (nests_parens f)
    (nests_parens (nests_listed expr_starts f)))

nests_assignment : {E : Language Expr} {p : Parser Expr} {e : ℕ} → Nests E p 0 0 e → Nests (Assignment E) (assignment Limited p) 0 0 e
nests_assignment {E} {p} {e} f = nests_mapped (nests_both nests_name
    (nests_after (sign marks.Assign) refl (nests_before (sign marks.Semicolon) refl f)))

nests_if : {p : Parser Expr} {q : Parser (List Stmt)} {e : ℕ} → (E : Language Expr) (S : Language Stmt) → Nests (Parens E) p 0 0 e
    → Nests (Block S) q 0 0 e → Nests (IfStatement E S) (if_statement Limited p q) 0 0 e
nests_if {p} {q} {e} E S f g =
    let i : Nests (IfPart E S) (if_part Limited p q) 0 0 e = nests_both (nests_keyword (keyword words.If) refl) (nests_both f g) in
    nests_mapped (nests_both i (nests_chained (among (6 ∷ [])) (nests_after (keyword words.Else) refl
    (nests_either (among (28 ∷ [])) (nests_mapped g) (nests_mapped i)))))

nests_block : {p : Parser Stmt} {e : ℕ} → (S : Language Stmt) → Nests S p 0 0 e → Nests (Block S) (block Limited p) 0 0 (suc e)
nests_block S f = nests_between (sign marks.OpenBrace) (sign marks.CloseBrace) refl refl refl refl (nests_repeated (among stmt_starts) f)

abbrev Closing : Language (Span × Span)
Closing = After (sign marks.OpenParen) (Then (Token_of (sign marks.CloseParen)) (Token_of (sign marks.Semicolon)))

nests_emission : {p : Parser (Span × Span)} {e : ℕ} → Nests Closing p 0 0 e → Nests Emission (emission Limited p) 0 0 e
nests_emission {p} {e} f = nests_mapped (nests_both (nests_keyword (keyword words.Emit) refl) f)

nests_empty : (e : ℕ) → Nests Closing (empty_parens Limited) 0 0 (suc e)
nests_empty e = nests_level 0 0 refl (nests_mapped (nests_then (nests_is {e = suc e} (sign marks.OpenParen) (omega arith))
    (nests_then (nests_is {e = e} (sign marks.CloseParen) (omega arith)) (nests_keyword {e = suc e} (sign marks.Semicolon) refl)
    (omega arith)) (omega arith)))

nests_statement : {v p : Parser Expr} {q : Parser (List Stmt)} {r : Parser (Span × Span)} {e : ℕ}
    → (V E : Language Expr) (S : Language Stmt) → Nests V v 0 0 e → Nests (Parens E) p 0 0 e → Nests (Block S) q 0 0 e
    → Nests Closing r 0 0 e → Nests (Either (Assignment V) (Either (IfStatement E S) Emission)) (statement Limited v p q r) 0 0 e
nests_statement V E S a f g h = nests_either (among (0 ∷ [])) (nests_assignment a)
    (nests_either (among (5 ∷ [])) (nests_if E S f g) (nests_emission h))

nests_stmt : (e : ℕ) → Nests (Statement_at (suc e)) (stmt_at Limited e) 0 0 e
unfolding stmt_at
nests_stmt zero = nests_statement (Expression 1) (Expression 0) (Statement_at 0) (nests_expr zero)
    (nests_blocked (Parens (Expression 0)) (sign marks.OpenParen) refl) (nests_blocked (Block (Statement_at 0)) (sign marks.OpenBrace) refl)
    (nests_blocked Closing (sign marks.OpenParen) refl)
nests_stmt (suc e) = nests_statement (Expression (suc (suc e))) (Expression (suc e)) (Statement_at (suc e)) (nests_expr (suc e))
    (nests_parens (nests_expr e)) (nests_block (Statement_at (suc e)) (nests_stmt e)) (nests_empty e)

-- ---- items, which are in no bracket

nests_variable : (e : ℕ) → Nests StateVariable (state_variable Limited) 0 0 e
nests_variable e = nests_mapped (nests_both nests_name (nests_once (among (32 ∷ [])) (nests_after (sign marks.Assign) refl nests_number)))

nests_parameters : (e : ℕ) → Nests Parameters (parameters Limited) 0 0 (suc (suc e))
nests_parameters e = nests_parens (nests_both (nests_brackets (nests_listed (0 ∷ []) (nests_variable e)))
    (nests_comma (nests_brackets (nests_listed (0 ∷ []) nests_name))))

nests_fold : (e : ℕ) → Nests (Fold (suc (suc e))) (fold_def Limited (stmt_at Limited (suc e))) 0 0 (suc (suc e))
nests_fold e = nests_mapped (nests_both (nests_keyword {e = suc (suc e)} (keyword words.Def) refl)
    (nests_both (nests_name {e = suc (suc e)}) (nests_both (nests_parameters e)
    (nests_block (Statement_at (suc (suc e))) (nests_stmt (suc e))))))

nests_filter : (e : ℕ) → Nests (Filter (Expression (suc (suc e)))) (filter_of Limited (expr_at Limited (suc e))) 0 0 (suc (suc e))
nests_filter e = nests_after (keyword words.Filter) refl (nests_parens (nests_both nests_name (nests_comma (nests_expr (suc e)))))

nests_mapping : (e : ℕ) → Nests (Mapping (Expression (suc e))) (mapping Limited (expr_at Limited e)) 0 0 (suc (suc e))
nests_mapping e = nests_after (keyword words.Map) refl (nests_parens (nests_both nests_name (nests_comma (nests_brackets (nests_separated
    (nests_mapped (nests_both nests_name (nests_after (sign marks.Assign) refl (nests_expr e)))))))))

nests_pairing : (e : ℕ) (k : TokenKind) → disjoint (kind_number k ∷ []) (opening ++ closing) ≡ true
    → Nests (Pairing k) (pairing Limited k) 0 0 (suc e)
nests_pairing e k d = nests_after k d (nests_parens (nests_both nests_name (nests_comma nests_name)))

nests_group : (e : ℕ) → Nests Group (group Limited) 0 0 (suc (suc e))
nests_group e = nests_after (keyword words.Groupby) refl (nests_parens (nests_both nests_name (nests_comma (nests_both
    (nests_brackets (nests_separated (nests_either (among (0 ∷ [])) (nests_mapped nests_name)
    (nests_mapped (nests_keyword kinds.FiveTuple refl))))) (nests_comma nests_name)))))

nests_best : (e : ℕ) → Nests Best (best Limited) 0 0 (suc e)
nests_best e = nests_after (keyword words.Top) refl (nests_parens (nests_both nests_name
    (nests_comma (nests_both nests_name (nests_comma nests_number)))))

nests_stream : (e : ℕ) → Nests (Stream (Expression (suc (suc e))) (Expression (suc e)))
    (stream Limited (expr_at Limited (suc e)) (expr_at Limited e)) 0 0 (suc (suc e))
nests_stream e = nests_mapped (nests_both (nests_name {e = suc (suc e)})
    (nests_after (sign marks.Assign) refl (nests_before (sign marks.Semicolon) refl
    (nests_either (among (8 ∷ [])) (nests_mapped (nests_filter e)) (nests_either (among (9 ∷ [])) (nests_mapped (nests_mapping e))
    (nests_either (among (10 ∷ [])) (nests_mapped (nests_pairing (suc e) (keyword words.Zip) refl)) (nests_mapped (nests_group e))))))))

nests_final : (e : ℕ) → Nests (Final (Expression (suc (suc e))) (Expression (suc e)))
    (final Limited (expr_at Limited (suc e)) (expr_at Limited e)) 0 0 (suc (suc e))
nests_final e = nests_mapped (nests_both (nests_keyword {e = suc (suc e)} (keyword words.Final) refl)
    (nests_both (nests_name {e = suc (suc e)}) (nests_after (sign marks.Assign) refl (nests_before (sign marks.Semicolon) refl
    (nests_either (among (8 ∷ [])) (nests_mapped (nests_filter e)) (nests_either (among (9 ∷ [])) (nests_mapped (nests_mapping e))
    (nests_either (among (11 ∷ [])) (nests_mapped (nests_group e)) (nests_either (among (14 ∷ []))
    (nests_mapped (nests_pairing (suc e) (keyword words.Join) refl)) (nests_mapped (nests_best (suc e)))))))))))

nests_print : (e : ℕ) → Nests Print (print Limited) 0 0 e
nests_print e = nests_mapped (nests_both (nests_keyword (keyword words.Print) refl) (nests_before (sign marks.Semicolon) refl nests_name))

nests_item : (e : ℕ) → Nests (Either (Fold (suc (suc e))) (Either (Stream (Expression (suc (suc e))) (Expression (suc e)))
    (Either (Final (Expression (suc (suc e))) (Expression (suc e))) Print)))
    (item Limited (stmt_at Limited (suc e)) (expr_at Limited (suc e)) (expr_at Limited e)) 0 0 (suc (suc e))
nests_item e = nests_either (among (4 ∷ [])) (nests_fold e) (nests_either (among (0 ∷ [])) (nests_stream e)
    (nests_either (among (12 ∷ [])) (nests_final e) (nests_print (suc (suc e)))))

pub nests_query : (e : ℕ) → Nests (Then (Repeated (Either (Fold (suc (suc e)))
    (Either (Stream (Expression (suc (suc e))) (Expression (suc e))) (Either (Final (Expression (suc (suc e))) (Expression (suc e)))
    Print)))) (Token_of kinds.End)) (query Limited (suc e) e) 0 0 (suc (suc e))
nests_query e = nests_both (nests_repeated (among item_starts) (nests_item e)) (nests_keyword {e = suc (suc e)} kinds.End refl)
