-- The greatest number in an expression, a statement or an item.
use Rattle.std.specs.Prelude.{ℕ, List, [], ◌∷◌, map, max}
use Rattle.query_lang.specs.declared.query.Expr.{Expr, fold-Expr}
use Rattle.query_lang.specs.declared.query.Expr.TheOpen as expr
use Rattle.query_lang.specs.declared.query.{Column.Column, FinalOp.FinalOp}
use Rattle.query_lang.specs.declared.query.FinalOp.TheVariants as final
use Rattle.query_lang.specs.declared.query.Item.{Item}
use Rattle.query_lang.specs.declared.query.Item.TheVariants as item
use Rattle.query_lang.specs.declared.query.StreamOp.{StreamOp}
use Rattle.query_lang.specs.declared.query.StreamOp.TheVariants as stream
use Rattle.query_lang.specs.declared.query.Stmt.{Stmt, fold-Stmt}
use Rattle.query_lang.specs.declared.query.Stmt.TheOpen as stmt

abbrev pub greatest_of : List ℕ → ℕ
greatest_of [] = 0
greatest_of (n ∷ rest) = max n (greatest_of rest)

abbrev pub number_step : expr.Expr-F ℕ → ℕ
number_step (expr.Number n span) = n
number_step (expr.Named name) = 0
number_step (expr.Not span e) = e
number_step (expr.Binary op span a b) = max a b
number_step (expr.Call op span arguments) = greatest_of arguments

abbrev pub greatest_number : Expr → ℕ
greatest_number = fold-Expr ℕ number_step

abbrev pub stmt_number_step : stmt.Stmt-F ℕ → ℕ
stmt_number_step (stmt.Assign name e) = greatest_number e
stmt_number_step (stmt.If c a b) = max (greatest_number c) (max (greatest_of a) (greatest_of b))
stmt_number_step (stmt.Emit span) = 0

abbrev pub greatest_in : Stmt → ℕ
greatest_in = fold-Stmt ℕ stmt_number_step

abbrev pub columns_number : List Column → ℕ
columns_number columns = greatest_of (map (λ column. greatest_number column.value) columns)

abbrev pub stream_number : StreamOp → ℕ
stream_number (stream.Filter input e) = greatest_number e
stream_number (stream.Map input columns) = columns_number columns
stream_number (stream.Zip left right) = 0
stream_number (stream.Group input keys f) = 0

abbrev pub final_number : FinalOp → ℕ
final_number (final.Filter input e) = greatest_number e
final_number (final.Map input columns) = columns_number columns
final_number (final.Group input keys f) = 0
final_number (final.Join left right) = 0
final_number (final.Top input column kept span) = 0

-- the greatest number in an item's expressions
abbrev pub item_number : Item → ℕ
item_number (item.Fold d) = greatest_of (map greatest_in d.body)
item_number (item.Stream d) = stream_number d.op
item_number (item.Final d) = final_number d.op
item_number (item.Print name) = 0
