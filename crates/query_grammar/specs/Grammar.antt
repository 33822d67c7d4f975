-- The grammar, a definition for each line. Each gives the words of the line with what they mean.
use Rattle.std.{specs.Prelude.{◌≡◌, ℕ, ◌-◌, ◌^◌, zero, suc, List, [], ◌∷◌, Option, Some, None, ◌⊎◌}, proofs.Common.{inl, inr}}
use Rattle.query_lang.specs.declared.{fault.Span.Span, fold.Op.Op}
use Rattle.query_lang.specs.declared.fold.Op.TheVariants as ops
use Rattle.query_lang.specs.declared.query.{Name.Name, Expr.Expr}
use Rattle.query_lang.specs.declared.query.Expr.TheVariants as exprs
use Rattle.query_lang.specs.declared.query.Stmt.{Stmt}
use Rattle.query_lang.specs.declared.query.Stmt.TheVariants as stmts
use Rattle.query_lang.specs.declared.query.{StateVar.StateVar, Column.Column, Key.Key}
use Rattle.query_lang.specs.declared.query.Key.TheVariants as keys
use Rattle.query_lang.specs.declared.query.StreamOp.{StreamOp}
use Rattle.query_lang.specs.declared.query.StreamOp.TheVariants as streams
use Rattle.query_lang.specs.declared.query.FinalOp.{FinalOp}
use Rattle.query_lang.specs.declared.query.FinalOp.TheVariants as finals
use Rattle.query_lang.specs.declared.query.Item.{Item}
use Rattle.query_lang.specs.declared.query.Item.TheVariants as items
use Rattle.query_lang.specs.declared.token.Word.TheVariants as words
use Rattle.query_lang.specs.declared.token.Mark.TheVariants as marks
use Rattle.query_lang.specs.declared.token.TokenKind.{TokenKind}
use Rattle.query_lang.specs.declared.token.TokenKind.TheVariants as kinds
use Rattle.query_lang.specs.declared.token.Token.{Token}
use Rattle.query_grammar.specs.Language.{Plain, Node, Statement, Opening, Leaf, Language, tokens_of, Word, Then, Repeated, AtMostOnce}
use Rattle.query_grammar.specs.{Language.{Either, Meaning, Chained}, Kinds.{is, name, number, operator, sign, keyword}}

-- ---- what the words mean

-- Repeated operators of one level group from the left.
abbrev pub grouped : Expr → List ((Op × Span) × Expr) → Expr
grouped left [] = left
grouped left (o ∷ others) = grouped (exprs.Binary o.0.0 o.0.1 left o.1) others

abbrev pub compared : Expr → Option ((Op × Span) × Expr) → Expr
compared left None = left
compared left (Some o) = exprs.Binary o.0.0 o.0.1 left o.1

abbrev pub negated : List Span → Expr → Expr
negated [] e = e
negated (span ∷ others) e = exprs.Not span (negated others e)

-- the first, and then the rest of a list
abbrev pub list_of : {A : Type 0} → A × List A → List A
list_of v = v.0 ∷ v.1

abbrev pub listed : {A : Type 0} → Option (List A) → List A
listed None = []
listed (Some xs) = xs

-- after an `else` comes the last block, or another `if`
abbrev pub is_last : {A B : Type 0} → B → A ⊎ B
is_last b = inr b

abbrev pub is_another : {A B U : Type 0} → U × A → A ⊎ B
is_another v = inl v.1

-- An `else` with an ifstmt is an else block with that one statement; a missing `else` is an empty block.
abbrev pub else_of : List (Expr × List Stmt) → Option (List Stmt) → List Stmt
else_of [] None = []
else_of [] (Some block) = block
else_of (branch ∷ others) last = stmts.If branch.0 branch.1 (else_of others last) ∷ []

-- a state variable starts at its number, and else at 0
abbrev pub initial_of : Option (ℕ × Span) → ℕ
initial_of None = 0
initial_of (Some n) = n.0

-- ---- signs and words around

abbrev pub Token_of : TokenKind → Language Span
Token_of t = Word Plain (is t)

abbrev pub Plain_name : Language Name
Plain_name = Word Plain name

abbrev pub After : {A : Type 0} → TokenKind → Language A → Language A
After t L = Meaning (λ v. v.1) (Then (Token_of t) L)

abbrev pub Before : {A : Type 0} → Language A → TokenKind → Language A
Before L t = Meaning (λ v. v.0) (Then L (Token_of t))

abbrev pub Between : {A : Type 0} → TokenKind → Language A → TokenKind → Language A
Between s L t = After s (Before L t)

abbrev pub Parens : {A : Type 0} → Language A → Language A
Parens L = Between (sign marks.OpenParen) L (sign marks.CloseParen)

abbrev pub Brackets : {A : Type 0} → Language A → Language A
Brackets L = Between (sign marks.OpenBracket) L (sign marks.CloseBracket)

-- L { "," L }
abbrev pub Separated : {A : Type 0} → Language A → Language (List A)
Separated L = Meaning list_of (Then L (Repeated (After (sign marks.Comma) L)))

-- [ L { "," L } ]
abbrev pub Listed : {A : Type 0} → Language A → Language (List A)
Listed L = Meaning listed (AtMostOnce (Separated L))

-- ---- expressions

abbrev pub Operators : Type 0
Operators = List (TokenKind × Op)

abbrev pub either_ops : Operators
either_ops = (sign marks.Either, ops.Either) ∷ []

abbrev pub both_ops : Operators
both_ops = (sign marks.Both, ops.Both) ∷ []

abbrev pub comparing_ops : Operators
comparing_ops = (sign marks.Equal, ops.Eq) ∷ (sign marks.NotEqual, ops.Ne) ∷ (sign marks.Less, ops.Lt)
    ∷ (sign marks.LessOrEqual, ops.Le)
    ∷ (sign marks.Greater, ops.Gt) ∷ (sign marks.GreaterOrEqual, ops.Ge) ∷ []

abbrev pub or_ops : Operators
or_ops = (sign marks.Or, ops.Or) ∷ []

abbrev pub xor_ops : Operators
xor_ops = (sign marks.Xor, ops.Xor) ∷ []

abbrev pub and_ops : Operators
and_ops = (sign marks.And, ops.And) ∷ []

abbrev pub shift_ops : Operators
shift_ops = (sign marks.ShiftLeft, ops.Shl) ∷ (sign marks.ShiftRight, ops.Shr) ∷ []

abbrev pub sum_ops : Operators
sum_ops = (sign marks.Plus, ops.Add) ∷ (sign marks.Minus, ops.Sub) ∷ []

abbrev pub product_ops : Operators
product_ops = (sign marks.Times, ops.Mul) ∷ (sign marks.Slash, ops.Div) ∷ (sign marks.Percent, ops.Rem) ∷ []

abbrev pub functions : Operators
functions = (keyword words.Max, ops.Max) ∷ (keyword words.Min, ops.Min) ∷ (keyword words.Sadd, ops.Sadd)
    ∷ (keyword words.Decay, ops.Decay) ∷ []

-- L { operator L }
abbrev pub Level : Operators → Language Expr → Language Expr
Level level L = Meaning (λ v. grouped v.0 v.1) (Then L (Repeated (Then (Word Node (operator level)) L)))

-- number | "infinity" | name
abbrev pub Atom : Language Expr
Atom = Either (Meaning (λ v. exprs.Number v.0 v.1) (Word Node number))
    (Either (Meaning (λ span. exprs.Number (2 ^ 64 - 1) span) (Word Node (is (keyword words.Infinity))))
    (Meaning exprs.Named (Word Node name)))

-- ( "max" | "min" | "sadd" | "decay" ) "(" [ expr { "," expr } ] ")"
abbrev pub CallOf : Language Expr → Language Expr
CallOf E = Meaning (λ v. exprs.Call v.0.0 v.0.1 v.1) (Then (Word Node (operator functions)) (Parens (Listed E)))

-- primary = number | "infinity" | name | "(" expr ")" | call
abbrev pub Primary : Language Expr → Language Expr
Primary E = Either Atom (Either (Parens E) (CallOf E))

-- The levels over a primary P: unary = { "!" } primary
abbrev pub Unary : Language Expr → Language Expr
Unary P = Meaning (λ v. negated v.0 v.1) (Then (Repeated (Word Node (is (sign marks.Bang)))) P)

-- prod = unary { ( "*" | "/" | "%" ) unary }
abbrev pub Product : Language Expr → Language Expr
Product P = Level product_ops (Unary P)

-- sum = prod { ( "+" | "-" ) prod }
abbrev pub Sum : Language Expr → Language Expr
Sum P = Level sum_ops (Product P)

-- shift = sum { ( "<<" | ">>" ) sum }
abbrev pub Shift : Language Expr → Language Expr
Shift P = Level shift_ops (Sum P)

-- band = shift { "&" shift }
abbrev pub BitAnd : Language Expr → Language Expr
BitAnd P = Level and_ops (Shift P)

-- bxor = band { "^" band }
abbrev pub BitXor : Language Expr → Language Expr
BitXor P = Level xor_ops (BitAnd P)

-- bor = bxor { "|" bxor }
abbrev pub BitOr : Language Expr → Language Expr
BitOr P = Level or_ops (BitXor P)

-- cmp = bor [ ( "==" | "!=" | "<" | "<=" | ">" | ">=" ) bor ]
abbrev pub Comparison : Language Expr → Language Expr
Comparison P = Meaning (λ v. compared v.0 v.1) (Then (BitOr P) (AtMostOnce (Then (Word Node (operator comparing_ops)) (BitOr P))))

-- conj = cmp { "&&" cmp }
abbrev pub Conjunction : Language Expr → Language Expr
Conjunction P = Level both_ops (Comparison P)

-- expr = conj { "||" conj }
abbrev pub Disjunction : Language Expr → Language Expr
Disjunction P = Level either_ops (Conjunction P)

-- an expression with at most d brackets open at once
abbrev pub Expression : ℕ → Language Expr
Expression zero = Disjunction Atom
Expression (suc d) = Disjunction (Primary (Expression d))

-- ---- statements

-- name "=" expr ";"
abbrev pub Assignment : Language Expr → Language Stmt
Assignment E = Meaning (λ v. stmts.Assign v.0 v.1) (Then (Word Statement name) (Between (sign marks.Assign) E (sign marks.Semicolon)))

-- "emit" "(" ")" ";"
abbrev pub Emission : Language Stmt
Emission = Meaning (λ v. stmts.Emit v.0)
    (Then (Word Statement (is (keyword words.Emit)))
    (After (sign marks.OpenParen) (Then (Token_of (sign marks.CloseParen)) (Token_of (sign marks.Semicolon)))))

-- block = "{" { stmt } "}"
abbrev pub Block : Language Stmt → Language (List Stmt)
Block S = Between (sign marks.OpenBrace) (Repeated S) (sign marks.CloseBrace)

-- "if" "(" expr ")" block
abbrev pub IfPart : Language Expr → Language Stmt → Language (Span × (Expr × List Stmt))
IfPart E S = Then (Word Statement (is (keyword words.If))) (Then (Parens E) (Block S))

-- "else" ( block | "if" "(" expr ")" block )
abbrev pub ElsePart : Language Expr → Language Stmt → Language ((Expr × List Stmt) ⊎ List Stmt)
ElsePart E S = After (keyword words.Else) (Either (Meaning is_last (Block S)) (Meaning is_another (IfPart E S)))

-- ifstmt = "if" "(" expr ")" block [ "else" ( block | ifstmt ) ]
abbrev pub IfStatement : Language Expr → Language Stmt → Language Stmt
IfStatement E S = Meaning (λ v. stmts.If v.0.1.0 v.0.1.1 (else_of v.1.0 v.1.1)) (Then (IfPart E S) (Chained (ElsePart E S)))

-- stmt, with at most d brackets open at once
abbrev pub Statement_at : ℕ → Language Stmt
Statement_at zero = Assignment (Expression zero)
Statement_at (suc d) = Either (Assignment (Expression (suc d))) (Either (IfStatement (Expression d) (Statement_at d)) Emission)

-- ---- items

-- svar = name [ "=" number ]
abbrev pub StateVariable : Language StateVar
StateVariable = Meaning (λ v. record {
  name = v.0;
  initial = initial_of v.1;
}) (Then Plain_name (AtMostOnce (After (sign marks.Assign) (Word Plain number))))

-- "(" "[" [ svar { "," svar } ] "]" "," "[" [ name { "," name } ] "]" ")"
abbrev pub Parameters : Language (List StateVar × List Name)
Parameters = Parens (Then (Brackets (Listed StateVariable)) (After (sign marks.Comma) (Brackets (Listed Plain_name))))

-- fold = "def" name "(" "[" [ svar { "," svar } ] "]" "," "[" [ name { "," name } ] "]" ")" block
abbrev pub Fold : ℕ → Language Item
Fold d = Meaning (λ v. items.Fold (record { name = v.1.0; states = v.1.1.0.0; args = v.1.1.0.1; body = v.1.1.1 }))
    (Then (Word Opening (is (keyword words.Def))) (Then Plain_name (Then Parameters (Block (Statement_at d)))))

-- filter = "filter" "(" name "," expr ")"
abbrev pub Filter : Language Expr → Language (Name × Expr)
Filter E = After (keyword words.Filter) (Parens (Then Plain_name (After (sign marks.Comma) E)))

-- name "=" expr
abbrev pub ColumnOf : Language Expr → Language Column
ColumnOf E = Meaning (λ v. record { name = v.0; value = v.1 }) (Then Plain_name (After (sign marks.Assign) E))

-- mapping = "map" "(" name "," "[" name "=" expr { "," name "=" expr } "]" ")"
abbrev pub Mapping : Language Expr → Language (Name × List Column)
Mapping E = After (keyword words.Map) (Parens (Then Plain_name (After (sign marks.Comma) (Brackets (Separated (ColumnOf E))))))

-- zipping = "zip" "(" name "," name ")", and joining = "join" "(" name "," name ")"
abbrev pub Pairing : TokenKind → Language (Name × Name)
Pairing w = After w (Parens (Then Plain_name (After (sign marks.Comma) Plain_name)))

-- key = name | "5tuple"
abbrev pub KeyOf : Language Key
KeyOf = Either (Meaning keys.Named Plain_name) (Meaning keys.FiveTuple (Token_of kinds.FiveTuple))

-- group = "groupby" "(" name "," "[" key { "," key } "]" "," name ")"
abbrev pub Group : Language (Name × (List Key × Name))
Group = After (keyword words.Groupby)
    (Parens (Then Plain_name (After (sign marks.Comma) (Then (Brackets (Separated KeyOf)) (After (sign marks.Comma) Plain_name)))))

-- best = "top" "(" name "," name "," number ")"
abbrev pub Best : Language (Name × (Name × (ℕ × Span)))
Best = After (keyword words.Top)
    (Parens (Then Plain_name (After (sign marks.Comma) (Then Plain_name (After (sign marks.Comma) (Word Plain number))))))

-- filter | mapping | zipping | group, of expressions in one bracket and in two
abbrev pub Streaming : Language Expr → Language Expr → Language StreamOp
Streaming E F = Either (Meaning (λ v. streams.Filter v.0 v.1) (Filter E)) (Either (Meaning (λ v. streams.Map v.0 v.1) (Mapping F))
    (Either (Meaning (λ v. streams.Zip v.0 v.1) (Pairing (keyword words.Zip))) (Meaning (λ v. streams.Group v.0 v.1.0 v.1.1) Group)))

-- stream = name "=" ( filter | mapping | zipping | group ) ";"
abbrev pub Stream : Language Expr → Language Expr → Language Item
Stream E F = Meaning (λ v. items.Stream (record { name = v.0; op = v.1 }))
    (Then (Word Opening name) (Between (sign marks.Assign) (Streaming E F) (sign marks.Semicolon)))

-- filter | mapping | group | joining | best
abbrev pub Finishing : Language Expr → Language Expr → Language FinalOp
Finishing E F = Either (Meaning (λ v. finals.Filter v.0 v.1) (Filter E)) (Either (Meaning (λ v. finals.Map v.0 v.1) (Mapping F))
    (Either (Meaning (λ v. finals.Group v.0 v.1.0 v.1.1) Group)
    (Either (Meaning (λ v. finals.Join v.0 v.1) (Pairing (keyword words.Join)))
    (Meaning (λ v. finals.Top v.0 v.1.0 v.1.1.0 v.1.1.1) Best))))

-- final = "final" name "=" ( filter | mapping | group | joining | best ) ";"
abbrev pub Final : Language Expr → Language Expr → Language Item
Final E F = Meaning (λ v. items.Final (record { name = v.1.0; op = v.1.1 }))
    (Then (Word Opening (is (keyword words.Final))) (Then Plain_name (Between (sign marks.Assign) (Finishing E F) (sign marks.Semicolon))))

-- print = "print" name ";"
abbrev pub Print : Language Item
Print = Meaning (λ v. items.Print v.1) (Then (Word Opening (is (keyword words.Print))) (Before Plain_name (sign marks.Semicolon)))

-- item = fold | stream | final | print
abbrev pub ItemOf : ℕ → Language Item
ItemOf d = Either (Fold d) (Either (Stream (Expression d) (Expression d)) (Either (Final (Expression d) (Expression d)) Print))

-- query = { item } end, with the end's span
abbrev pub Query : ℕ → Language (List Item × Span)
Query d = Then (Repeated (ItemOf d)) (Token_of kinds.End)

-- The tokens are those of a query with these items, whose end is there.
abbrev pub Derives : List Token → List Item × Span → Type 0
Derives ts query = (d : ℕ) × (leaves : List Leaf) × (tokens_of leaves ≡ ts) × Query d leaves query
