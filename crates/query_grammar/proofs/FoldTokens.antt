-- The tokens of a fold that are counted are its nodes and its statements.
use Rattle.std.proofs.{Common.{◌≡◌, ℕ, cond, List, [], ◌∷◌, refl, ap, arith}, lemmas.List.Sums.sum_by-cons}
use Rattle.query_lang.specs.{declared.query.FoldDef.FoldDef, TypedFolds.{stmt_nodes, stmt_count, fold_nodes, fold_statements}}
use Rattle.query_grammar.specs.{FoldTokens.{counts_as_node, begins_statement, nodes_among, statements_among}, Grammar.Fold}
use Rattle.query_grammar.{specs.Language.{Role, Plain, Node, Statement, Opening, Leaf}, proofs.ItemWeights.opens_fold}
use Rattle.query_grammar.proofs.Weighing.{is_node, is_statement, leaves_by, sum_total}
use Rattle.query_lang.specs.declared.query.Item.TheVariants as items

node_is : (r : Role) → cond (counts_as_node r) 1 0 ≡ is_node r
node_is Plain = refl
node_is Node = refl
node_is Statement = refl
node_is Opening = refl

statement_is : (r : Role) → cond (begins_statement r) 1 0 ≡ is_statement r
statement_is Plain = refl
statement_is Node = refl
statement_is Statement = refl
statement_is Opening = refl

nodes_are : (leaves : List Leaf) → nodes_among leaves ≡ leaves_by is_node leaves
nodes_are [] = refl
nodes_are (leaf ∷ rest) = omega (
  arith,
  sum_by-cons (λ (l : Leaf). cond (counts_as_node l.role) 1 0) leaf rest,
  node_is leaf.role,
  nodes_are rest,
)

statements_are : (leaves : List Leaf) → statements_among leaves ≡ leaves_by is_statement leaves
statements_are [] = refl
statements_are (leaf ∷ rest) =
    omega (arith, sum_by-cons (λ (l : Leaf). cond (begins_statement l.role) 1 0) leaf rest, statement_is leaf.role, statements_are rest)

pub fold_nodes_are : (d : ℕ) (leaves : List Leaf) (f : FoldDef) → Fold d leaves (items.Fold f) → nodes_among leaves ≡ fold_nodes f
fold_nodes_are d leaves f means =
    let o = (opens_fold d).is leaves (items.Fold f) means in
    let first : is_node o.0.role ≡ 0 = ap is_node o.3 in
    omega (arith, nodes_are leaves, ap (leaves_by is_node) o.2, first, o.4.nodes, sum_total stmt_nodes f.body)

pub fold_statements_are : (d : ℕ) (leaves : List Leaf) (f : FoldDef) → Fold d leaves (items.Fold f)
    → statements_among leaves ≡ fold_statements f
fold_statements_are d leaves f means =
    let o = (opens_fold d).is leaves (items.Fold f) means in
    let first : is_statement o.0.role ≡ 0 = ap is_statement o.3 in
    omega (arith, statements_are leaves, ap (leaves_by is_statement) o.2, first, o.4.statements, sum_total stmt_count f.body)
