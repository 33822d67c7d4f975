-- The parser of each line meets the language of the line.
use Rattle.std.proofs.Common.{◌≡◌, ℕ, zero, suc, Bool, true, false, List, [], ◌∷◌, ◌++◌, Some, refl}
use Rattle.query_lang.specs.declared.{fault.Span.Span, fold.Op.Op, query.{Expr.Expr, Stmt.Stmt, Item.Item}, token.TokenKind.TokenKind}
use Rattle.query_grammar.specs.Language.{Plain, Node, Statement, Opening, Leaf, Language, Then, Repeated, Either, Meaning}
use Rattle.query_grammar.specs.Parser.{Limits, Limited, Unlimited, Parser, followed_by, repeated}
use Rattle.query_grammar.specs.{Kinds.{one_of, among, kind, kind_number, is, operator, kinds_of, sign, keyword}, Grammar.{Token_of, After}}
use Rattle.query_grammar.specs.Grammar.{Parens, Listed, Operators, either_ops, both_ops, comparing_ops, or_ops, xor_ops, and_ops, shift_ops}
use Rattle.query_grammar.specs.Grammar.{sum_ops, product_ops, functions, Level, Atom, Primary, Unary, Product, Sum, Shift, BitAnd, BitXor}
use Rattle.query_grammar.specs.Grammar.{BitOr, Comparison, Conjunction, Disjunction, Expression, Assignment, Emission, Block, IfPart}
use Rattle.query_grammar.specs.Grammar.{IfStatement, Statement_at, StateVariable, Parameters, Fold, Filter, ColumnOf, Mapping, Pairing}
use Rattle.query_grammar.specs.{Grammar.{KeyOf, Group, Best, Streaming, Stream, Finishing, Final, Print, ItemOf, Query}, Reading.token_of}
use Rattle.query_grammar.specs.Reading.{parens, listed_by, blocked, atom_starts, primary_starts, expr_starts, level, atom, primary, unary}
use Rattle.query_grammar.specs.Reading.{product, sum, shift, bit_and, bit_xor, bit_or, comparison, conjunction, disjunction, expr_at}
use Rattle.query_grammar.specs.Reading.{assignment, emission, stmt_starts, block, if_part, if_statement, statement, stmt_at, state_variable}
use Rattle.query_grammar.specs.Reading.{parameters, fold_def, filter_of, column_of, mapping, pairing, key_of, group, best, streaming}
use Rattle.query_grammar.specs.Reading.{stream, finishing, final, print, item, item_starts, query}
use Rattle.query_grammar.proofs.{Parses.{Parses, parses_wider, parses_wider_on, parses_word}, Choices.parses_blocked}
use Rattle.query_grammar.proofs.{Sequences.parses_null_then, Lines.{subset, disjoint, disjoint_is, Line, EndFree, free_word, free_both}}
use Rattle.query_grammar.proofs.Lines.{line_then, line_then_null, line_null_then, line_either, line_once, line_repeated, line_meaning}
use Rattle.query_grammar.proofs.{Lines.{line_sets, line_chained, more_left, more_right, less_left}, LineParts.{is_kind, no_place}}
use Rattle.query_grammar.proofs.LineParts.{sample_of, is_itself, line_is, line_operator, line_name, line_number, disjoint_nil, line_after}
use Rattle.query_grammar.proofs.LineParts.{line_before, line_before_null, line_parens, line_parens_null, line_brackets, line_brackets_null}
use Rattle.query_grammar.proofs.LineParts.{line_separated, line_listed, line_comma}
use Rattle.query_lang.specs.declared.fold.Op.TheVariants as operations
use Rattle.query_lang.specs.declared.token.Word.TheVariants as words
use Rattle.query_lang.specs.declared.token.Mark.TheVariants as marks
use Rattle.query_lang.specs.declared.token.TokenKind.TheVariants as kinds

-- ---- expressions

line_level : {m : Limits} {L : Language Expr} {p : Parser Expr} {ys : List ℕ} → (zs : List ℕ) (ops : Operators) (k : TokenKind) (op : Op)
    → operator ops (sample_of k) ≡ Some (op, no_place) → one_of (kinds_of ops) 3 ≡ false → Line m L p expr_starts ys false
    → disjoint (kinds_of ops) ys ≡ true → subset (ys ++ (kinds_of ops ++ ys)) zs ≡ true
    → Line m (Level ops L) (level m ops p) expr_starts zs false
line_level {m} zs ops k op e other f d within = line_sets expr_starts zs (line_meaning (line_then_null f
    (line_repeated (line_then (line_operator m ops k op e other) f (disjoint_nil expr_starts)) d) d)) refl within

abbrev pub product_on : List ℕ
product_on = 43 ∷ 44 ∷ 45 ∷ []

abbrev pub sum_on : List ℕ
sum_on = 41 ∷ 42 ∷ product_on

abbrev pub shift_on : List ℕ
shift_on = 39 ∷ 40 ∷ sum_on

abbrev pub and_on : List ℕ
and_on = 46 ∷ shift_on

abbrev pub xor_on : List ℕ
xor_on = 50 ∷ and_on

abbrev pub or_on : List ℕ
or_on = 48 ∷ xor_on

abbrev pub comparison_on : List ℕ
comparison_on = 33 ∷ 34 ∷ 35 ∷ 36 ∷ 37 ∷ 38 ∷ or_on

abbrev pub conjunction_on : List ℕ
conjunction_on = 47 ∷ comparison_on

abbrev pub expr_on : List ℕ
expr_on = 49 ∷ conjunction_on

module _ {m : Limits} {P : Language Expr} {p : Parser Expr} (f : Line m P p primary_starts [] false) where
  line_unary : Line m (Unary P) (unary m p) expr_starts [] false
  line_unary = line_meaning (line_null_then (line_repeated (line_is m Node (sign marks.Bang) refl) refl) f refl)

  line_product : Line m (Product P) (product m p) expr_starts product_on false
  line_product = line_level product_on product_ops (sign marks.Times) operations.Mul refl refl line_unary refl refl

  line_sum : Line m (Sum P) (sum m p) expr_starts sum_on false
  line_sum = line_level sum_on sum_ops (sign marks.Plus) operations.Add refl refl line_product refl refl

  line_shift : Line m (Shift P) (shift m p) expr_starts shift_on false
  line_shift = line_level shift_on shift_ops (sign marks.ShiftLeft) operations.Shl refl refl line_sum refl refl

  line_bit_and : Line m (BitAnd P) (bit_and m p) expr_starts and_on false
  line_bit_and = line_level and_on and_ops (sign marks.And) operations.And refl refl line_shift refl refl

  line_bit_xor : Line m (BitXor P) (bit_xor m p) expr_starts xor_on false
  line_bit_xor = line_level xor_on xor_ops (sign marks.Xor) operations.Xor refl refl line_bit_and refl refl

  line_bit_or : Line m (BitOr P) (bit_or m p) expr_starts or_on false
  line_bit_or = line_level or_on or_ops (sign marks.Or) operations.Or refl refl line_bit_xor refl refl

  line_comparison : Line m (Comparison P) (comparison m p) expr_starts comparison_on false
  line_comparison = line_sets _ _ (line_meaning (line_then_null line_bit_or (line_once (line_then
      (line_operator m comparing_ops (sign marks.Equal) operations.Eq refl refl) line_bit_or refl)) refl)) refl refl

  line_conjunction : Line m (Conjunction P) (conjunction m p) expr_starts conjunction_on false
  line_conjunction = line_level conjunction_on both_ops (sign marks.Both) operations.Both refl refl line_comparison refl refl

  pub line_disjunction : Line m (Disjunction P) (disjunction m p) expr_starts expr_on false
  line_disjunction = line_level expr_on either_ops (sign marks.Either) operations.Either refl refl line_conjunction refl refl

pub line_atom : (m : Limits) → Line m Atom (atom m) atom_starts [] false
line_atom m = line_either (line_meaning (line_number m Node)) (line_either (line_meaning (line_is m Node (keyword words.Infinity) refl))
    (line_meaning (line_name m Node)) refl) refl

line_wider : {A : Type 0} {m : Limits} {L : Language A} {p : Parser A} {xs ys : List ℕ} → (also : List ℕ) → Line m L p xs ys false
    → Line m L p (xs ++ also) ys false
line_wider {A} {m} {L} {p} {xs} {ys} also f = record {
  parses = parses_wider (among (xs ++ also)) (λ t h. more_left xs also (kind t) h) f.parses;
  free = f.free;
}

line_arguments : {m : Limits} {E : Language Expr} {p : Parser Expr} → Line m E p expr_starts expr_on false
    → Line m (Parens (Listed E)) (parens m (listed_by m expr_starts p)) (24 ∷ []) [] false
line_arguments f = line_parens_null (line_listed f refl) refl

line_primary : {m : Limits} {p : Parser Expr} {q : Parser (List Expr)} → (E : Language Expr) → Line m (Parens E) p (24 ∷ []) [] false
    → Line m (Parens (Listed E)) q (24 ∷ []) [] false → Line m (Primary E) (primary m p q) primary_starts [] false
line_primary {m} E f g = line_either (line_atom m) (line_either f (line_meaning
    (line_then (line_operator m functions (keyword words.Max) operations.Max refl refl) g refl)) refl) refl

-- with no limits, the parser is given as many brackets as the language has
pub line_expr : (d : ℕ) → Line Unlimited (Expression d) (expr_at Unlimited d) expr_starts expr_on false
unfolding expr_at
line_expr zero = line_disjunction (line_wider (24 ∷ 16 ∷ 17 ∷ 18 ∷ 19 ∷ []) (line_atom Unlimited))
line_expr (suc d) = let f = line_expr d in line_disjunction (line_primary (Expression d) (line_parens f refl) (line_arguments f))

-- with limits, the language has more brackets than the parser is given
pub data Deeper : ℕ → ℕ → Type 0 where
  here : {k : ℕ} → Deeper zero (suc k)
  under : {e d : ℕ} → Deeper e d → Deeper (suc e) (suc d)

-- a bracket before a line that would be one too many
line_blocked_by : {A B : Type 0} {m : Limits} {L : Language A} {p : Parser A} {xs ys : List ℕ} {nullable : Bool} {f : Span × A → B}
    (k : TokenKind) → one_of (kind_number k ∷ []) 3 ≡ false → Line m L p xs ys nullable
    → Line Limited (Meaning f (Then (Token_of k) L)) (blocked k) (kind_number k ∷ []) [] false
line_blocked_by {L = L} {f = f} k e g = let s = g.parses.sample in record {
  parses = parses_wider (among (kind_number k ∷ [])) (is_kind k) (parses_blocked L (is k) f (blocked k) (λ c. refl) (λ c u ts. refl)
      (among []) (sample_of k) no_place (is_itself k) s.0 s.1 s.2);
  free = λ w v h. free_both w h.1.0 h.1.1 h.1.2 (free_word Plain (is k) (kind_number k ∷ []) e (is_kind k) h.1.0 h.0.0 h.1.3)
      (g.free h.1.1 h.0.1 h.1.4);
}

pub line_expr_limited : {e d : ℕ} → Deeper e d → Line Limited (Expression d) (expr_at Limited e) expr_starts expr_on false
unfolding expr_at
line_expr_limited {e} {d} (here {k}) =
    let f = line_expr k in
    line_disjunction (line_primary (Expression k) (line_blocked_by (sign marks.OpenParen) refl
    (line_before (sign marks.CloseParen) refl f refl))
    (line_blocked_by (sign marks.OpenParen) refl (line_before_null (sign marks.CloseParen) refl (line_listed f refl) refl)))
line_expr_limited (under {d = d} h) = let f = line_expr_limited h in line_disjunction
    (line_primary (Expression d) (line_parens f refl) (line_arguments f))

-- ---- statements

line_wider_on : {A : Type 0} {m : Limits} {L : Language A} {p : Parser A} {xs ys : List ℕ} → (also : List ℕ) → Line m L p xs ys false
    → Line m L p xs (ys ++ also) false
line_wider_on {A} {m} {L} {p} {xs} {ys} also f = record {
  parses = parses_wider_on (among (ys ++ also)) (λ t h. less_left ys also (kind t) h) f.parses;
  free = f.free;
}

line_assignment : {m : Limits} {E : Language Expr} {p : Parser Expr} → Line m E p expr_starts expr_on false
    → Line m (Assignment E) (assignment m p) (0 ∷ []) [] false
line_assignment {m} f = line_meaning (line_then (line_name m Statement)
    (line_after (sign marks.Assign) refl (line_before (sign marks.Semicolon) refl f refl)) refl)

line_closing : (m : Limits) → Line m (Then (Token_of (sign marks.CloseParen)) (Token_of (sign marks.Semicolon)))
    (followed_by (token_of m (sign marks.CloseParen)) (token_of m (sign marks.Semicolon))) (25 ∷ []) [] false
line_closing m = line_then (line_is m Plain (sign marks.CloseParen) refl) (line_is m Plain (sign marks.Semicolon) refl) refl

line_emission : {m : Limits} {p : Parser (Span × Span)} → Line m (After (sign marks.OpenParen)
    (Then (Token_of (sign marks.CloseParen)) (Token_of (sign marks.Semicolon)))) p (24 ∷ []) [] false
    → Line m Emission (emission m p) (7 ∷ []) [] false
line_emission {m} f = line_meaning (line_then (line_is m Statement (keyword words.Emit) refl) f refl)

line_block : {m : Limits} {S : Language Stmt} {p : Parser Stmt} → Line m S p stmt_starts (6 ∷ []) false
    → Line m (Block S) (block m p) (28 ∷ []) [] false
line_block f = line_after (sign marks.OpenBrace) refl (line_before_null (sign marks.CloseBrace) refl (line_repeated f refl) refl)

line_if_part : {m : Limits} {p : Parser Expr} {q : Parser (List Stmt)} → (E : Language Expr) (S : Language Stmt)
    → Line m (Parens E) p (24 ∷ []) [] false → Line m (Block S) q (28 ∷ []) [] false → Line m (IfPart E S) (if_part m p q) (5 ∷ []) [] false
line_if_part {m} E S f g = line_then (line_is m Statement (keyword words.If) refl) (line_then f g refl) refl

line_if : {m : Limits} {p : Parser Expr} {q : Parser (List Stmt)} → (E : Language Expr) (S : Language Stmt)
    → Line m (Parens E) p (24 ∷ []) [] false → Line m (Block S) q (28 ∷ []) [] false
    → Line m (IfStatement E S) (if_statement m p q) (5 ∷ []) (6 ∷ []) false
line_if {m} E S f g =
    let i = line_if_part E S f g in
    line_meaning (line_then_null i (line_chained (line_after (keyword words.Else) refl (line_either (line_meaning g) (line_meaning i) refl))
    refl) refl)

line_statement : {m : Limits} {v p : Parser Expr} {q : Parser (List Stmt)} {r : Parser (Span × Span)}
    → (V E : Language Expr) (S : Language Stmt) → Line m V v expr_starts expr_on false → Line m (Parens E) p (24 ∷ []) [] false
    → Line m (Block S) q (28 ∷ []) [] false
    → Line m (After (sign marks.OpenParen) (Then (Token_of (sign marks.CloseParen)) (Token_of (sign marks.Semicolon)))) r (24 ∷ []) [] false
    → Line m (Either (Assignment V) (Either (IfStatement E S) Emission)) (statement m v p q r) stmt_starts (6 ∷ []) false
line_statement V E S a f g h = line_either (line_assignment a) (line_either (line_if E S f g) (line_emission h) refl) refl

pub line_stmt : (d : ℕ) → Line Unlimited (Statement_at d) (stmt_at Unlimited d) stmt_starts (6 ∷ []) false
unfolding stmt_at
line_stmt zero = line_wider_on (6 ∷ []) (line_wider (5 ∷ 7 ∷ []) (line_assignment (line_expr zero)))
line_stmt (suc d) = line_statement (Expression (suc d)) (Expression d) (Statement_at d) (line_expr (suc d)) (line_parens (line_expr d) refl)
    (line_block (line_stmt d)) (line_after (sign marks.OpenParen) refl (line_closing Unlimited))

pub line_stmt_limited : {e d : ℕ} → Deeper e d → Line Limited (Statement_at d) (stmt_at Limited e) stmt_starts (6 ∷ []) false
unfolding stmt_at
line_stmt_limited {e} {d} (here {k}) =
    line_statement (Expression (suc k)) (Expression k) (Statement_at k) (line_expr_limited (here {k = k}))
    (line_blocked_by (sign marks.OpenParen) refl (line_before (sign marks.CloseParen) refl (line_expr k) refl))
    (line_blocked_by (sign marks.OpenBrace) refl (line_before_null (sign marks.CloseBrace) refl (line_repeated (line_stmt k) refl) refl))
    (line_blocked_by (sign marks.OpenParen) refl (line_closing Limited))
line_stmt_limited (under {d = d} h) = line_statement (Expression (suc d)) (Expression d) (Statement_at d) (line_expr_limited (under h))
    (line_parens (line_expr_limited h) refl) (line_block (line_stmt_limited h))
    (line_after (sign marks.OpenParen) refl (line_closing Limited))

-- ---- items

line_variable : (m : Limits) → Line m StateVariable (state_variable m) (0 ∷ []) (32 ∷ []) false
line_variable m = line_meaning (line_then_null (line_name m Plain) (line_once (line_after (sign marks.Assign) refl (line_number m Plain)))
    refl)

line_parameters : (m : Limits) → Line m Parameters (parameters m) (24 ∷ []) [] false
line_parameters m = line_parens (line_then (line_brackets_null (line_listed (line_variable m) refl) refl)
    (line_comma (line_brackets_null (line_listed (line_name m Plain) refl) refl)) refl) refl

line_fold : {m : Limits} → (d : ℕ) {p : Parser Stmt} → Line m (Statement_at d) p stmt_starts (6 ∷ []) false
    → Line m (Fold d) (fold_def m p) (4 ∷ []) [] false
line_fold {m} d f = line_meaning (line_then (line_is m Opening (keyword words.Def) refl)
    (line_then (line_name m Plain) (line_then (line_parameters m) (line_block f) refl) refl) refl)

module _ {m : Limits} {E : Language Expr} {p : Parser Expr} (f : Line m E p expr_starts expr_on false) where
  line_filter : Line m (Filter E) (filter_of m p) (8 ∷ []) [] false
  line_filter = line_after (keyword words.Filter) refl (line_parens (line_then (line_name m Plain) (line_comma f) refl) refl)

  line_column : Line m (ColumnOf E) (column_of m p) (0 ∷ []) expr_on false
  line_column = line_meaning (line_then (line_name m Plain) (line_after (sign marks.Assign) refl f) refl)

  line_mapping : Line m (Mapping E) (mapping m p) (9 ∷ []) [] false
  line_mapping = line_after (keyword words.Map) refl (line_parens (line_then (line_name m Plain)
      (line_comma (line_brackets (line_separated line_column refl) refl)) refl) refl)

line_pairing : (m : Limits) (k : TokenKind) → one_of (kind_number k ∷ []) 3 ≡ false
    → Line m (Pairing k) (pairing m k) (kind_number k ∷ []) [] false
line_pairing m k e = line_after k e (line_parens (line_then (line_name m Plain) (line_comma (line_name m Plain)) refl) refl)

line_key : (m : Limits) → Line m KeyOf (key_of m) (0 ∷ 2 ∷ []) [] false
line_key m = line_either (line_meaning (line_name m Plain)) (line_meaning (line_is m Plain kinds.FiveTuple refl)) refl

line_group : (m : Limits) → Line m Group (group m) (11 ∷ []) [] false
line_group m = line_after (keyword words.Groupby) refl (line_parens (line_then (line_name m Plain)
    (line_comma (line_then (line_brackets (line_separated (line_key m) refl) refl) (line_comma (line_name m Plain)) refl)) refl) refl)

line_best : (m : Limits) → Line m Best (best m) (15 ∷ []) [] false
line_best m = line_after (keyword words.Top) refl (line_parens (line_then (line_name m Plain)
    (line_comma (line_then (line_name m Plain) (line_comma (line_number m Plain)) refl)) refl) refl)

module _ {m : Limits} {E F : Language Expr} {p q : Parser Expr} (f : Line m E p expr_starts expr_on false)
    (g : Line m F q expr_starts expr_on false) where
  line_streaming : Line m (Streaming E F) (streaming m p q) (8 ∷ 9 ∷ 10 ∷ 11 ∷ []) [] false
  line_streaming = line_either (line_meaning (line_filter f)) (line_either (line_meaning (line_mapping g))
      (line_either (line_meaning (line_pairing m (keyword words.Zip) refl)) (line_meaning (line_group m)) refl) refl) refl

  line_stream : Line m (Stream E F) (stream m p q) (0 ∷ []) [] false
  line_stream = line_meaning (line_then (line_name m Opening) (line_after (sign marks.Assign) refl
      (line_before (sign marks.Semicolon) refl line_streaming refl)) refl)

  line_finishing : Line m (Finishing E F) (finishing m p q) (8 ∷ 9 ∷ 11 ∷ 14 ∷ 15 ∷ []) [] false
  line_finishing = line_either (line_meaning (line_filter f)) (line_either (line_meaning (line_mapping g)) (line_either
      (line_meaning (line_group m)) (line_either (line_meaning (line_pairing m (keyword words.Join) refl)) (line_meaning (line_best m))
      refl) refl) refl) refl

  line_final : Line m (Final E F) (final m p q) (12 ∷ []) [] false
  line_final = line_meaning (line_then (line_is m Opening (keyword words.Final) refl) (line_then (line_name m Plain)
      (line_after (sign marks.Assign) refl (line_before (sign marks.Semicolon) refl line_finishing refl)) refl) refl)

line_print : (m : Limits) → Line m Print (print m) (13 ∷ []) [] false
line_print m = line_meaning (line_then (line_is m Opening (keyword words.Print) refl)
    (line_before (sign marks.Semicolon) refl (line_name m Plain) refl) refl)

module _ {m : Limits} {s : Parser Stmt} {p q : Parser Expr} (d : ℕ) (f : Line m (Statement_at d) s stmt_starts (6 ∷ []) false)
    (g : Line m (Expression d) p expr_starts expr_on false) (h : Line m (Expression d) q expr_starts expr_on false) where
  line_item : Line m (ItemOf d) (item m s p q) item_starts [] false
  line_item = line_either (line_fold d f) (line_either (line_stream g h) (line_either (line_final g h) (line_print m) refl) refl) refl

  pub line_items : Line m (Repeated (ItemOf d)) (repeated (among item_starts) (item m s p q)) item_starts (item_starts ++ []) true
  line_items = line_repeated line_item refl

-- ---- the query

-- { item } end
parses_query : {m : Limits} {L : Language (List Item)} {p : Parser (List Item)} → Line m L p item_starts (item_starts ++ []) true
    → Parses m (Then L (Token_of kinds.End)) (followed_by p (token_of m kinds.End)) (among (item_starts ++ (3 ∷ []))) (among []) false
parses_query {m} {L} {p} f = parses_null_then (among (item_starts ++ (3 ∷ []))) (among []) f.parses
    (parses_wider (among (3 ∷ [])) (is_kind kinds.End) (parses_word m Plain (is kinds.End) (among []) (sample_of kinds.End) no_place
    (is_itself kinds.End)))
    (λ t h. disjoint_is (3 ∷ []) (item_starts ++ []) (kind t) refl h) (λ t h. more_left item_starts (3 ∷ []) (kind t) h)
    (λ t h. more_right item_starts (3 ∷ []) (kind t) h) (λ t h. h)

pub parses_unlimited : (d : ℕ) → Parses Unlimited (Query d) (query Unlimited d d) (among (item_starts ++ (3 ∷ []))) (among []) false
parses_unlimited d = parses_query (line_items d (line_stmt d) (line_expr d) (line_expr d))

pub parses_limited : {e e' d : ℕ} → Deeper e d → Deeper e' d → Parses Limited (Query d) (query Limited e e')
    (among (item_starts ++ (3 ∷ []))) (among []) false
parses_limited {e} {e'} {d} h h' = parses_query (line_items d (line_stmt_limited h) (line_expr_limited h) (line_expr_limited h'))

-- the words of items have no end
pub items_free : (d : ℕ) (w : List Leaf) (v : List Item) → Repeated (ItemOf d) w v → EndFree w
items_free d w v h = (line_items {m = Unlimited} d (line_stmt d) (line_expr d) (line_expr d)).free w v h
