-- The statements that the tokens of a body write, read from the first token on. A count bounds how far is read; the number
-- of tokens is enough.
use Rattle.std.specs.Prelude.{ℕ, zero, suc, ◌+◌, List, [], ◌∷◌, drop, length}
use Rattle.query_lang.specs.declared.fold.{TypedExpr.{TypedExpr, Number, Slot, Not, Binary}, TypedStmt.{TypedStmt, Assign, If}}
use Rattle.query_lang.specs.{Terms.{Term, Literal, Read, Negation, Operation}, Blocks.{Block, End, Set, Fork}}
use Rattle.plan_file.specs.declared.lexemes.Lexeme.{Lexeme}
use Rattle.plan_file.specs.declared.lexemes.Lexeme.TheVariants as word

-- what tokens begin with, and the tokens after it
pub record Front (A : Type 0) : Type 0 where
  pub found : A
  pub left : List Lexeme

-- the expression that tokens begin with, over this many state variables: an argument's slot comes after those of the variables
abbrev pub read_term : ℕ → ℕ → List Lexeme → Front Term
read_term zero states words = record { found = Literal 0; left = words }
read_term (suc n) states (word.Number v ∷ rest) = record { found = Literal v; left = rest }
read_term (suc n) states (word.State s ∷ rest) = record { found = Read s; left = rest }
read_term (suc n) states (word.Argument a ∷ rest) = record { found = Read (states + a); left = rest }
read_term (suc n) states (word.Not ∷ rest) =
    let inner = read_term n states rest in
    record { found = Negation inner.found; left = inner.left }
read_term (suc n) states (word.Function op ∷ rest) =
    let a = read_term n states rest in
    let b = read_term n states a.left in
    record { found = Operation op a.found b.found; left = b.left }
read_term (suc n) states words = record { found = Literal 0; left = words }

-- the statements that tokens begin with; a brace stands before each block of a choice, and after it
abbrev pub read_block : ℕ → ℕ → List Lexeme → Front Block
read_block zero states words = record { found = End; left = words }
read_block (suc n) states (word.Set ∷ word.State v ∷ rest) =
    let e = read_term n states rest in
    let next = read_block n states e.left in
    record { found = Set v e.found next.found; left = next.left }
read_block (suc n) states (word.If ∷ rest) =
    let c = read_term n states rest in
    let a = read_block n states (drop 1 c.left) in
    let b = read_block n states (drop 2 a.left) in
    let next = read_block n states (drop 1 b.left) in
    record { found = Fork c.found a.found b.found next.found; left = next.left }
read_block (suc n) states words = record { found = End; left = words }

-- the statements that tokens write
unfoldable pub block_written : ℕ → List Lexeme → Block
block_written states words = (read_block (length words) states words).found

-- an expression as its term gives it
abbrev pub expr_for : Term → TypedExpr
expr_for (Literal n) = Number n
expr_for (Read s) = Slot s
expr_for (Negation e) = Not (expr_for e)
expr_for (Operation op a b) = Binary op (expr_for a) (expr_for b)

-- statements as their block gives them
abbrev pub stmts_for : Block → List TypedStmt
stmts_for End = []
stmts_for (Set v e next) = Assign v (expr_for e) ∷ stmts_for next
stmts_for (Fork c a b next) = If (expr_for c) (stmts_for a) (stmts_for b) ∷ stmts_for next
