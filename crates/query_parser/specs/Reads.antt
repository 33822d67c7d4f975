-- What the functions that read tokens give, unless memory runs out.
use Rattle.std.specs.Prelude.{◌≡◌, ℕ, zero, suc, Bool, true, false, List, [], ◌∷◌, nat_eq, if◌then◌else◌, ◌⊎◌, Option, Some, None, Result}
use Rattle.std.{specs.Prelude.{Ok, Err}, proofs.Common.{inl, inr}}
use Rattle.query_lang.specs.declared.{fault.Span.Span, fold.Op.Op, query.{Expr.Expr, Name.Name, Stmt.Stmt}}
use Rattle.query_lang.specs.declared.token.Mark.TheVariants as marks
use Rattle.query_lang.specs.declared.token.{Token.Token, TokenKind.TokenKind}
use Rattle.query_grammar.specs.{declared.stop.Counts.Counts, Kinds.{among, kind_number, kinds_of, operator, sign}}
use Rattle.query_grammar.specs.Language as roles
use Rattle.query_grammar.specs.{Language.Node, Grammar.{Operators, compared, comparing_ops, either_ops, both_ops, or_ops, xor_ops, and_ops}}
use Rattle.query_grammar.specs.Grammar.{shift_ops, sum_ops, product_ops}
use Rattle.query_grammar.specs.Parser.{Limited, Outcome, Done, Stopped, Parser, limit_of, word, followed_by, mapped, at_most_once}
use Rattle.query_grammar.specs.Reading.{after, before, plain_name, blocked, parens, listed_by, expr_starts, level, primary, unary, product}
use Rattle.query_grammar.specs.Reading.{sum, shift, bit_and, bit_xor, bit_or, comparison, conjunction, expr_at, block, empty_parens}
use Rattle.query_grammar.specs.Reading.{else_part, stmt_at}
use Rattle.query_parser.specs.declared.statement.ElsePart.{ElsePart}
use Rattle.query_parser.specs.declared.statement.ElsePart.TheVariants as parts
use Rattle.query_parser.specs.declared.operators.Level.{Level}
use Rattle.query_parser.specs.declared.operators.Level.TheVariants as levels
use Rattle.query_parser.specs.declared.halt.Halt.{Halt}
use Rattle.query_parser.specs.declared.halt.Halt.TheVariants as halts
use Rattle.query_parser.specs.declared.reader.{Reader.Reader, Role.Role}
use Rattle.query_parser.specs.declared.reader.Role.TheVariants as code

abbrev pub role_of : Role → roles.Role
role_of code.Plain = roles.Plain
role_of code.Node = roles.Node
role_of code.Statement = roles.Statement
role_of code.Opening = roles.Opening

-- the same fault, at which the reader stands
abbrev pub StopsAt : {A : Type 0} → Halt → Reader → Outcome A → Type 0
StopsAt halts.Memory reader o = ⊥
StopsAt (halts.At stop) reader o = o ≡ Stopped stop reader.rest.now

-- the same fault, unless memory ran out
abbrev pub Fails : {A : Type 0} → Halt → Reader → Outcome A → Type 0
Fails halts.Memory reader o = Unit {0}
Fails (halts.At stop) reader o = o ≡ Stopped stop reader.rest.now

-- what a parser of the grammar gives, from one reader to the other
abbrev pub Gives : {A : Type 0} → Result A Halt → Reader → Reader → Parser A → Type 0
Gives (Ok x) from to p = p from.counts from.rest.now ≡ Done x to.counts to.rest.now
Gives (Err e) from to p = Fails e to (p from.counts from.rest.now)

-- what a parser of the grammar gives that needs no memory
abbrev pub Sees : {A : Type 0} → Result A Halt → Reader → Reader → Parser A → Type 0
Sees (Ok x) from to p = p from.counts from.rest.now ≡ Done x to.counts to.rest.now
Sees (Err e) from to p = StopsAt e to (p from.counts from.rest.now)

-- the counts after one more, or the limit
abbrev pub Charges : Result Counts Halt → Option Counts → roles.Role → Type 0
Charges (Ok c) o role = o ≡ Some c
Charges (Err e) o role = (o ≡ None) × (e ≡ halts.At (limit_of role))

-- a word, an open parenthesis, a name and a comma
abbrev pub input_of : TokenKind → Parser Name
input_of w = after Limited w (after Limited (sign marks.OpenParen) (before Limited (plain_name Limited) (sign marks.Comma)))

-- ---- operators

abbrev pub op_among : Operators → TokenKind → Option Op
op_among [] kind = None
op_among (o ∷ others) kind = if nat_eq (kind_number kind) (kind_number o.0) then Some o.1 else op_among others kind

-- the operator that comes next
abbrev pub next_op : Operators → List Token → Option Op
next_op ops [] = None
next_op ops (t ∷ ts) = op_among ops t.kind

abbrev pub is_op : Option Op → Bool
is_op (Some op) = true
is_op None = false

abbrev pub op_with : Span → Option Op → Option (Op × Span)
op_with span None = None
op_with span (Some op) = Some (op, span)

-- the operators of a level
abbrev pub ops_of : Level → Operators
ops_of levels.Product = product_ops
ops_of levels.Sum = sum_ops
ops_of levels.Shift = shift_ops
ops_of levels.And = and_ops
ops_of levels.Xor = xor_ops
ops_of levels.Or = or_ops
ops_of levels.Comparison = comparing_ops
ops_of levels.Both = both_ops
ops_of levels.Either = either_ops

-- the operands of a level, over primaries
unfoldable pub operands_of : Level → Parser Expr → Parser Expr
operands_of levels.Product p = unary Limited p
operands_of levels.Sum p = product Limited p
operands_of levels.Shift p = sum Limited p
operands_of levels.And p = shift Limited p
operands_of levels.Xor p = bit_and Limited p
operands_of levels.Or p = bit_xor Limited p
operands_of levels.Comparison p = bit_or Limited p
operands_of levels.Both p = comparison Limited p
operands_of levels.Either p = conjunction Limited p

-- an operator of a level, and what comes after it
abbrev pub operation_of : Level → Parser Expr → Parser ((Op × Span) × Expr)
operation_of l p = followed_by (word Limited Node (operator (ops_of l))) (operands_of l p)

abbrev pub level_of : Level → Parser Expr → Parser Expr
level_of l p = level Limited (ops_of l) (operands_of l p)

-- one comparison at most
abbrev pub comparison_of : Parser Expr → Parser Expr
comparison_of p = mapped (λ v. compared v.0 v.1)
    (followed_by (operands_of levels.Comparison p) (at_most_once (among (kinds_of comparing_ops)) (operation_of levels.Comparison p)))

-- An expression in its bracket, the list of a call, and a primary, in which at most that many brackets may be opened.
abbrev pub bracket_at : ℕ → Parser Expr
bracket_at zero = blocked (sign marks.OpenParen)
bracket_at (suc e) = parens Limited (expr_at Limited e)

abbrev pub arguments_at : ℕ → Parser (List Expr)
arguments_at zero = blocked (sign marks.OpenParen)
arguments_at (suc e) = parens Limited (listed_by Limited expr_starts (expr_at Limited e))

abbrev pub primary_at : ℕ → Parser Expr
primary_at e = primary Limited (bracket_at e) (arguments_at e)

-- ---- statements

-- a block in its braces, and the brackets of an emit, where at most that many brackets may be opened
abbrev pub block_at : ℕ → Parser (List Stmt)
block_at zero = blocked (sign marks.OpenBrace)
block_at (suc e) = block Limited (stmt_at Limited e)

abbrev pub empty_at : ℕ → Parser (Span × Span)
empty_at zero = blocked (sign marks.OpenParen)
empty_at (suc e) = empty_parens Limited

abbrev pub else_part_at : ℕ → Parser ((Expr × List Stmt) ⊎ List Stmt)
else_part_at e = else_part Limited (bracket_at e) (block_at e)

-- what comes after an `else`
abbrev pub part_of : ElsePart → (Expr × List Stmt) ⊎ List Stmt
part_of (parts.Another branch) = inl branch
part_of (parts.Last body) = inr body

-- what a parser of the grammar gives, as the code has it
abbrev pub GivesPart : Result ElsePart Halt → Reader → Reader → Parser ((Expr × List Stmt) ⊎ List Stmt) → Type 0
GivesPart (Ok x) from to p = p from.counts from.rest.now ≡ Done (part_of x) to.counts to.rest.now
GivesPart (Err e) from to p = Fails e to (p from.counts from.rest.now)
