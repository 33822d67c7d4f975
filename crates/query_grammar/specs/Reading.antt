-- The parser of each line, by the next token. Its argument says how many more brackets may be opened.
use Rattle.std.specs.Prelude.{ℕ, ◌-◌, ◌^◌, zero, suc, List, [], ◌∷◌, Option, Some, None, ◌⊎◌}
use Rattle.query_lang.specs.declared.{fault.Span.Span, query.{Name.Name, Expr.Expr}}
use Rattle.query_lang.specs.declared.query.Expr.TheVariants as exprs
use Rattle.query_lang.specs.declared.query.Stmt.{Stmt}
use Rattle.query_lang.specs.declared.query.Stmt.TheVariants as stmts
use Rattle.query_lang.specs.declared.query.{StateVar.StateVar, Column.Column, Key.Key}
use Rattle.query_lang.specs.declared.query.Key.TheVariants as keys
use Rattle.query_lang.specs.declared.query.StreamOp.{StreamOp}
use Rattle.query_lang.specs.declared.query.StreamOp.TheVariants as streams
use Rattle.query_lang.specs.declared.query.FinalOp.{FinalOp}
use Rattle.query_lang.specs.declared.query.FinalOp.TheVariants as finals
use Rattle.query_lang.specs.declared.query.Item.{Item}
use Rattle.query_lang.specs.declared.query.Item.TheVariants as items
use Rattle.query_lang.specs.declared.token.Word.TheVariants as words
use Rattle.query_lang.specs.declared.token.Mark.TheVariants as marks
use Rattle.query_lang.specs.declared.token.TokenKind.{TokenKind}
use Rattle.query_lang.specs.declared.token.TokenKind.TheVariants as kinds
use Rattle.query_lang.specs.declared.{token.Token.Token, fault.TheConstants.MAX_NESTING}
use Rattle.query_grammar.specs.{declared.stop.Stop.TheVariants.{Unexpected, Nesting}, Language.{Plain, Node, Statement, Opening}}
use Rattle.query_grammar.specs.{Kinds.{among, is, name, number, operator, kinds_of, sign, keyword}, Parser.{no_counts, Limits, Limited}}
use Rattle.query_grammar.specs.Parser.{Unlimited, Outcome, Done, Stopped, Parser, word, followed_by, mapped, at_most_once, either, repeated}
use Rattle.query_grammar.specs.{Parser.chained, Grammar.{grouped, compared, negated, list_of, listed, is_last, is_another, else_of}}
use Rattle.query_grammar.specs.Grammar.{initial_of, Operators, either_ops, both_ops, comparing_ops, or_ops, xor_ops, and_ops, shift_ops}
use Rattle.query_grammar.specs.Grammar.{sum_ops, product_ops, functions}

-- ---- signs and words around

abbrev pub token_of : Limits → TokenKind → Parser Span
token_of m t = word m Plain (is t)

abbrev pub plain_name : Limits → Parser Name
plain_name m = word m Plain name

abbrev pub after : {A : Type 0} → Limits → TokenKind → Parser A → Parser A
after m t p = mapped (λ v. v.1) (followed_by (token_of m t) p)

abbrev pub before : {A : Type 0} → Limits → Parser A → TokenKind → Parser A
before m p t = mapped (λ v. v.0) (followed_by p (token_of m t))

abbrev pub between : {A : Type 0} → Limits → TokenKind → Parser A → TokenKind → Parser A
between m s p t = after m s (before m p t)

abbrev pub parens : {A : Type 0} → Limits → Parser A → Parser A
parens m p = between m (sign marks.OpenParen) p (sign marks.CloseParen)

abbrev pub brackets : {A : Type 0} → Limits → Parser A → Parser A
brackets m p = between m (sign marks.OpenBracket) p (sign marks.CloseBracket)

abbrev pub separated : {A : Type 0} → Limits → Parser A → Parser (List A)
separated m p = mapped list_of (followed_by p (repeated (among (30 ∷ [])) (after m (sign marks.Comma) p)))

abbrev pub listed_by : {A : Type 0} → Limits → List ℕ → Parser A → Parser (List A)
listed_by m starts p = mapped listed (at_most_once (among starts) (separated m p))

-- a bracket that would be one too many
abbrev pub blocked_at : {A : Type 0} → Option Span → List Token → Outcome A
blocked_at None ts = Stopped Unexpected ts
blocked_at (Some span) ts = Stopped Nesting ts

abbrev pub blocked : {A : Type 0} → TokenKind → Parser A
blocked wanted c [] = Stopped Unexpected []
blocked wanted c (t ∷ ts) = blocked_at (is wanted t) (t ∷ ts)

-- ---- expressions

-- what begins a primary, and an expression
abbrev pub atom_starts : List ℕ
atom_starts = 1 ∷ 20 ∷ 0 ∷ []

abbrev pub primary_starts : List ℕ
primary_starts = 1 ∷ 20 ∷ 0 ∷ 24 ∷ 16 ∷ 17 ∷ 18 ∷ 19 ∷ []

abbrev pub expr_starts : List ℕ
expr_starts = 51 ∷ 1 ∷ 20 ∷ 0 ∷ 24 ∷ 16 ∷ 17 ∷ 18 ∷ 19 ∷ []

abbrev pub level : Limits → Operators → Parser Expr → Parser Expr
level m ops p = mapped (λ v. grouped v.0 v.1)
    (followed_by p (repeated (among (kinds_of ops)) (followed_by (word m Node (operator ops)) p)))

abbrev pub atom : Limits → Parser Expr
atom m = either (among (1 ∷ [])) (mapped (λ v. exprs.Number v.0 v.1) (word m Node number))
    (either (among (20 ∷ [])) (mapped (λ span. exprs.Number (2 ^ 64 - 1) span) (word m Node (is (keyword words.Infinity))))
    (mapped exprs.Named (word m Node name)))

abbrev pub call_of : Limits → Parser (List Expr) → Parser Expr
call_of m arguments = mapped (λ v. exprs.Call v.0.0 v.0.1 v.1) (followed_by (word m Node (operator functions)) arguments)

abbrev pub primary : Limits → Parser Expr → Parser (List Expr) → Parser Expr
primary m inside arguments = either (among atom_starts) (atom m) (either (among (24 ∷ [])) inside (call_of m arguments))

abbrev pub unary : Limits → Parser Expr → Parser Expr
unary m p = mapped (λ v. negated v.0 v.1) (followed_by (repeated (among (51 ∷ [])) (word m Node (is (sign marks.Bang)))) p)

abbrev pub product : Limits → Parser Expr → Parser Expr
product m p = level m product_ops (unary m p)

abbrev pub sum : Limits → Parser Expr → Parser Expr
sum m p = level m sum_ops (product m p)

abbrev pub shift : Limits → Parser Expr → Parser Expr
shift m p = level m shift_ops (sum m p)

abbrev pub bit_and : Limits → Parser Expr → Parser Expr
bit_and m p = level m and_ops (shift m p)

abbrev pub bit_xor : Limits → Parser Expr → Parser Expr
bit_xor m p = level m xor_ops (bit_and m p)

abbrev pub bit_or : Limits → Parser Expr → Parser Expr
bit_or m p = level m or_ops (bit_xor m p)

abbrev pub comparison : Limits → Parser Expr → Parser Expr
comparison m p = mapped (λ v. compared v.0 v.1)
    (followed_by (bit_or m p) (at_most_once (among (kinds_of comparing_ops))
    (followed_by (word m Node (operator comparing_ops)) (bit_or m p))))

abbrev pub conjunction : Limits → Parser Expr → Parser Expr
conjunction m p = level m both_ops (comparison m p)

abbrev pub disjunction : Limits → Parser Expr → Parser Expr
disjunction m p = level m either_ops (conjunction m p)

-- a primary and an expression in which at most that many brackets may be opened
unfoldable pub expr_at : Limits → ℕ → Parser Expr
expr_at Limited zero = disjunction Limited (primary Limited (blocked (sign marks.OpenParen)) (blocked (sign marks.OpenParen)))
expr_at Unlimited zero = disjunction Unlimited (atom Unlimited)
expr_at m (suc e) = disjunction m (primary m (parens m (expr_at m e)) (parens m (listed_by m expr_starts (expr_at m e))))

-- ---- statements

abbrev pub assignment : Limits → Parser Expr → Parser Stmt
assignment m p = mapped (λ v. stmts.Assign v.0 v.1)
    (followed_by (word m Statement name) (between m (sign marks.Assign) p (sign marks.Semicolon)))

abbrev pub emission : Limits → Parser (Span × Span) → Parser Stmt
emission m empty = mapped (λ v. stmts.Emit v.0) (followed_by (word m Statement (is (keyword words.Emit))) empty)

-- "(" ")" ";"
abbrev pub empty_parens : Limits → Parser (Span × Span)
empty_parens m = after m (sign marks.OpenParen) (followed_by (token_of m (sign marks.CloseParen)) (token_of m (sign marks.Semicolon)))

-- what begins a statement
abbrev pub stmt_starts : List ℕ
stmt_starts = 0 ∷ 5 ∷ 7 ∷ []

abbrev pub block : Limits → Parser Stmt → Parser (List Stmt)
block m s = between m (sign marks.OpenBrace) (repeated (among stmt_starts) s) (sign marks.CloseBrace)

abbrev pub if_part : Limits → Parser Expr → Parser (List Stmt) → Parser (Span × (Expr × List Stmt))
if_part m condition b = followed_by (word m Statement (is (keyword words.If))) (followed_by condition b)

abbrev pub else_part : Limits → Parser Expr → Parser (List Stmt) → Parser ((Expr × List Stmt) ⊎ List Stmt)
else_part m condition b = after m (keyword words.Else)
    (either (among (28 ∷ [])) (mapped is_last b) (mapped is_another (if_part m condition b)))

abbrev pub if_statement : Limits → Parser Expr → Parser (List Stmt) → Parser Stmt
if_statement m condition b = mapped (λ v. stmts.If v.0.1.0 v.0.1.1 (else_of v.1.0 v.1.1))
    (followed_by (if_part m condition b) (chained (among (6 ∷ [])) (else_part m condition b)))

-- a statement, of an expression, a condition in its bracket, a block in its braces, and an emit's brackets
abbrev pub statement : Limits → Parser Expr → Parser Expr → Parser (List Stmt) → Parser (Span × Span) → Parser Stmt
statement m value condition b empty = either (among (0 ∷ [])) (assignment m value)
    (either (among (5 ∷ [])) (if_statement m condition b) (emission m empty))

-- a statement in which at most that many brackets may be opened
unfoldable pub stmt_at : Limits → ℕ → Parser Stmt
stmt_at Limited zero = statement Limited (expr_at Limited zero) (blocked (sign marks.OpenParen))
    (blocked (sign marks.OpenBrace)) (blocked (sign marks.OpenParen))
stmt_at Unlimited zero = assignment Unlimited (expr_at Unlimited zero)
stmt_at m (suc e) = statement m (expr_at m (suc e)) (parens m (expr_at m e)) (block m (stmt_at m e)) (empty_parens m)

-- ---- items

abbrev pub state_variable : Limits → Parser StateVar
state_variable m = mapped (λ v. record {
  name = v.0;
  initial = initial_of v.1;
}) (followed_by (plain_name m)
    (at_most_once (among (32 ∷ [])) (after m (sign marks.Assign) (word m Plain number))))

abbrev pub parameters : Limits → Parser (List StateVar × List Name)
parameters m = parens m (followed_by (brackets m (listed_by m (0 ∷ []) (state_variable m)))
    (after m (sign marks.Comma) (brackets m (listed_by m (0 ∷ []) (plain_name m)))))

abbrev pub fold_def : Limits → Parser Stmt → Parser Item
fold_def m s = mapped (λ v. items.Fold (record { name = v.1.0; states = v.1.1.0.0; args = v.1.1.0.1; body = v.1.1.1 }))
    (followed_by (word m Opening (is (keyword words.Def))) (followed_by (plain_name m) (followed_by (parameters m) (block m s))))

abbrev pub filter_of : Limits → Parser Expr → Parser (Name × Expr)
filter_of m p = after m (keyword words.Filter) (parens m (followed_by (plain_name m) (after m (sign marks.Comma) p)))

abbrev pub column_of : Limits → Parser Expr → Parser Column
column_of m p = mapped (λ v. record { name = v.0; value = v.1 }) (followed_by (plain_name m) (after m (sign marks.Assign) p))

abbrev pub mapping : Limits → Parser Expr → Parser (Name × List Column)
mapping m p = after m (keyword words.Map)
    (parens m (followed_by (plain_name m) (after m (sign marks.Comma) (brackets m (separated m (column_of m p))))))

abbrev pub pairing : Limits → TokenKind → Parser (Name × Name)
pairing m w = after m w (parens m (followed_by (plain_name m) (after m (sign marks.Comma) (plain_name m))))

abbrev pub key_of : Limits → Parser Key
key_of m = either (among (0 ∷ [])) (mapped keys.Named (plain_name m)) (mapped keys.FiveTuple (token_of m kinds.FiveTuple))

abbrev pub group : Limits → Parser (Name × (List Key × Name))
group m = after m (keyword words.Groupby)
    (parens m (followed_by (plain_name m)
    (after m (sign marks.Comma) (followed_by (brackets m (separated m (key_of m))) (after m (sign marks.Comma) (plain_name m))))))

abbrev pub best : Limits → Parser (Name × (Name × (ℕ × Span)))
best m = after m (keyword words.Top)
    (parens m (followed_by (plain_name m)
    (after m (sign marks.Comma) (followed_by (plain_name m) (after m (sign marks.Comma) (word m Plain number))))))

abbrev pub streaming : Limits → Parser Expr → Parser Expr → Parser StreamOp
streaming m p q = either (among (8 ∷ [])) (mapped (λ v. streams.Filter v.0 v.1) (filter_of m p))
    (either (among (9 ∷ [])) (mapped (λ v. streams.Map v.0 v.1) (mapping m q))
    (either (among (10 ∷ [])) (mapped (λ v. streams.Zip v.0 v.1) (pairing m (keyword words.Zip)))
    (mapped (λ v. streams.Group v.0 v.1.0 v.1.1) (group m))))

abbrev pub stream : Limits → Parser Expr → Parser Expr → Parser Item
stream m p q = mapped (λ v. items.Stream (record { name = v.0; op = v.1 }))
    (followed_by (word m Opening name) (between m (sign marks.Assign) (streaming m p q) (sign marks.Semicolon)))

abbrev pub finishing : Limits → Parser Expr → Parser Expr → Parser FinalOp
finishing m p q = either (among (8 ∷ [])) (mapped (λ v. finals.Filter v.0 v.1) (filter_of m p))
    (either (among (9 ∷ [])) (mapped (λ v. finals.Map v.0 v.1) (mapping m q))
    (either (among (11 ∷ [])) (mapped (λ v. finals.Group v.0 v.1.0 v.1.1) (group m))
    (either (among (14 ∷ [])) (mapped (λ v. finals.Join v.0 v.1) (pairing m (keyword words.Join)))
    (mapped (λ v. finals.Top v.0 v.1.0 v.1.1.0 v.1.1.1) (best m)))))

abbrev pub final : Limits → Parser Expr → Parser Expr → Parser Item
final m p q = mapped (λ v. items.Final (record { name = v.1.0; op = v.1.1 }))
    (followed_by (word m Opening (is (keyword words.Final)))
    (followed_by (plain_name m) (between m (sign marks.Assign) (finishing m p q) (sign marks.Semicolon))))

abbrev pub print : Limits → Parser Item
print m = mapped (λ v. items.Print v.1)
    (followed_by (word m Opening (is (keyword words.Print))) (before m (plain_name m) (sign marks.Semicolon)))

abbrev pub item : Limits → Parser Stmt → Parser Expr → Parser Expr → Parser Item
item m s p q = either (among (4 ∷ [])) (fold_def m s)
    (either (among (0 ∷ [])) (stream m p q) (either (among (12 ∷ [])) (final m p q) (print m)))

-- what begins an item
abbrev pub item_starts : List ℕ
item_starts = 4 ∷ 0 ∷ 12 ∷ 13 ∷ []

-- a query, of a statement in one bracket and expressions in one and in two
abbrev pub query : Limits → ℕ → ℕ → Parser (List Item × Span)
query m e e' = followed_by (repeated (among item_starts) (item m (stmt_at m e) (expr_at m e) (expr_at m e'))) (token_of m kinds.End)

-- all of the tokens
abbrev pub all_read : {A : Type 0} → Outcome A → Outcome A
all_read (Done a c []) = Done a c []
all_read (Done a c (t ∷ ts)) = Stopped Unexpected (t ∷ ts)
all_read (Stopped k ts) = Stopped k ts

-- What parsing gives. At most MAX_NESTING brackets are open at once, one of which is that of a fold's body or of a filter, and
-- two are those of a map's columns.
abbrev pub parsed : List Token → Outcome (List Item × Span)
parsed ts = all_read (query Limited (MAX_NESTING - 1) (MAX_NESTING - 2) no_counts ts)
