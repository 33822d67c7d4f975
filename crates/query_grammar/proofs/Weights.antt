-- The nodes and statements of what a word means are counted among the word's leaves.
use Rattle.std.proofs.Common.{◌≡◌, ℕ, zero, suc, ◌+◌, ◌-◌, ◌^◌, List, [], ◌∷◌, Option, Some, None, refl, sym, arith, inl, inr, ◌⊎◌}
use Rattle.query_lang.specs.declared.{fault.Span.Span, fold.Op.Op, query.{Expr.{Expr, Binary}, Stmt.Stmt}}
use Rattle.query_lang.specs.TypedFolds.{expr_nodes, stmt_nodes, stmt_count}
use Rattle.query_grammar.specs.{Language.{Leaf, Language, Chain, Chained}, Kinds.{sign, keyword}, Grammar.{grouped, compared, negated}}
use Rattle.query_grammar.specs.Grammar.{else_of, Parens, Operators, either_ops, both_ops, or_ops, xor_ops, and_ops, shift_ops, sum_ops}
use Rattle.query_grammar.specs.Grammar.{product_ops, Level, Atom, CallOf, Unary, Comparison, Disjunction, Expression, Assignment, Emission}
use Rattle.query_grammar.{specs.Grammar.{Block, IfPart, ElsePart, IfStatement, Statement_at}, proofs.Weighing.{weigh_as, total}}
use Rattle.query_grammar.proofs.Weighing.{node_number, node_named, node_not, node_binary, node_call, nodes_assign, nodes_if, nodes_emit}
use Rattle.query_grammar.proofs.Weighing.{count_assign, count_if, count_emit, Weight, both, nothing, same_weight, none, one, weigh_plain}
use Rattle.query_grammar.proofs.Weighing.{weigh_node, weigh_statement, weigh_then, weigh_meaning, weigh_either, weigh_repeated, Weighs}
use Rattle.query_grammar.proofs.Weighing.{if_some, weigh_once, weigh_after, weigh_between, weigh_listed}
use Rattle.query_lang.specs.declared.token.Mark.TheVariants as marks
use Rattle.query_lang.specs.declared.token.Word.TheVariants as words

-- ---- expressions

grouped_nodes : (left : Expr) (others : List ((Op × Span) × Expr)) → expr_nodes left
    + total (λ (o : (Op × Span) × Expr). 1 + expr_nodes o.1) others ≡ expr_nodes (grouped left others)
grouped_nodes left [] = omega arith
grouped_nodes left (o ∷ others) = omega (arith, node_binary o.0.0 o.0.1 left o.1, grouped_nodes (Binary o.0.0 o.0.1 left o.1) others)

compared_nodes : (left : Expr) (other : Option ((Op × Span) × Expr)) → expr_nodes left
    + if_some (λ (o : (Op × Span) × Expr). 1 + expr_nodes o.1) other ≡ expr_nodes (compared left other)
compared_nodes left None = omega arith
compared_nodes left (Some o) = omega (arith, node_binary o.0.0 o.0.1 left o.1)

negated_nodes : (spans : List Span) (e : Expr) → total one spans + expr_nodes e ≡ expr_nodes (negated spans e)
negated_nodes [] e = omega arith
negated_nodes (s ∷ spans) e = omega (arith, node_not s (negated spans e), negated_nodes spans e)

pub nothing_in : {X : Type 0} (xs : List X) → total none xs ≡ 0
nothing_in [] = refl
nothing_in (x ∷ xs) = omega (arith, nothing_in xs)

nothing_more : {X : Type 0} (xs : List X) → total (λ (x : X). 0 + 0) xs ≡ 0
nothing_more [] = refl
nothing_more (x ∷ xs) = omega (arith, nothing_more xs)

pub weigh_level : {P : Language Expr} (ops : Operators) → Weighs P expr_nodes none → Weighs (Level ops P) expr_nodes none
weigh_level ops p = weigh_meaning (weigh_then p (weigh_repeated (weigh_then weigh_node p)))
    (λ a. grouped_nodes a.0 a.1) (λ a. omega (arith, nothing_more a.1))

weigh_unary : {P : Language Expr} → Weighs P expr_nodes none → Weighs (Unary P) expr_nodes none
weigh_unary p = weigh_meaning (weigh_then (weigh_repeated weigh_node) p) (λ a. negated_nodes a.0 a.1) (λ a. omega (arith, nothing_in a.0))

no_more : {X : Type 0} (o : Option X) → 0 + if_some (λ (x : X). 0 + 0) o ≡ 0
no_more None = refl
no_more (Some x) = refl

weigh_comparison : {P : Language Expr} → Weighs P expr_nodes none → Weighs (Comparison P) expr_nodes none
weigh_comparison p =
    let bits = weigh_level or_ops (weigh_level xor_ops (weigh_level and_ops (weigh_level shift_ops (weigh_level sum_ops
    (weigh_level product_ops (weigh_unary p)))))) in
    weigh_meaning (weigh_then bits (weigh_once (weigh_then weigh_node bits))) (λ a. compared_nodes a.0 a.1) (λ a. no_more a.1)

weigh_disjunction : {P : Language Expr} → Weighs P expr_nodes none → Weighs (Disjunction P) expr_nodes none
weigh_disjunction p = weigh_level either_ops (weigh_level both_ops (weigh_comparison p))

weigh_atom : Weighs Atom expr_nodes none
weigh_atom = weigh_either (weigh_meaning weigh_node (λ a. sym (node_number a.0 a.1)) (λ a. refl))
    (weigh_either (weigh_meaning weigh_node (λ a. sym (node_number (2 ^ 64 - 1) a)) (λ a. refl))
    (weigh_meaning weigh_node (λ a. sym (node_named a)) (λ a. refl)))

pub weigh_parens : {A : Type 0} {L : Language A} {f g : A → ℕ} → Weighs L f g → Weighs (Parens L) f g
weigh_parens p = weigh_between (sign marks.OpenParen) (sign marks.CloseParen) p

weigh_call : {E : Language Expr} → Weighs E expr_nodes none → Weighs (CallOf E) expr_nodes none
weigh_call p = weigh_meaning (weigh_then weigh_node (weigh_parens (weigh_listed p)))
    (λ a. sym (node_call a.0.0 a.0.1 a.1)) (λ a. omega (arith, nothing_in a.1))

pub weigh_expr : (d : ℕ) → Weighs (Expression d) expr_nodes none
weigh_expr zero = weigh_disjunction weigh_atom
weigh_expr (suc d) = let p = weigh_expr d in weigh_disjunction (weigh_either weigh_atom (weigh_either (weigh_parens p) (weigh_call p)))

-- ---- statements

weigh_assignment : {E : Language Expr} → Weighs E expr_nodes none → Weighs (Assignment E) stmt_nodes stmt_count
weigh_assignment p = weigh_meaning (weigh_then weigh_statement (weigh_between (sign marks.Assign) (sign marks.Semicolon) p))
    (λ a. omega (arith, nodes_assign a.0 a.1)) (λ a. omega (arith, count_assign a.0 a.1))

weigh_emission : Weighs Emission stmt_nodes stmt_count
weigh_emission = weigh_meaning (weigh_then weigh_statement (weigh_after (sign marks.OpenParen) (weigh_then weigh_plain weigh_plain)))
    (λ a. omega (arith, nodes_emit a.0)) (λ a. omega (arith, count_emit a.0))

pub weigh_block : {S : Language Stmt} → Weighs S stmt_nodes stmt_count → Weighs (Block S) (total stmt_nodes) (total stmt_count)
weigh_block p = weigh_between (sign marks.OpenBrace) (sign marks.CloseBrace) (weigh_repeated p)

-- what an `if` and its block weigh, and what comes after an `else`
abbrev branch_nodes : Expr × List Stmt → ℕ
branch_nodes v = expr_nodes v.0 + total stmt_nodes v.1

abbrev branch_count : Expr × List Stmt → ℕ
branch_count v = 1 + total stmt_count v.1

abbrev else_nodes : (Expr × List Stmt) ⊎ List Stmt → ℕ
else_nodes (inl v) = branch_nodes v
else_nodes (inr b) = total stmt_nodes b

abbrev else_count : (Expr × List Stmt) ⊎ List Stmt → ℕ
else_count (inl v) = branch_count v
else_count (inr b) = total stmt_count b

abbrev chain_by : (Expr × List Stmt → ℕ) → (List Stmt → ℕ) → List (Expr × List Stmt) × Option (List Stmt) → ℕ
chain_by f g v = total f v.0 + if_some g v.1

chains : (T : Language ((Expr × List Stmt) ⊎ List Stmt)) → Weighs T else_nodes else_count
    → (w : List Leaf) (v : List (Expr × List Stmt)) (o : Option (List Stmt)) → Chain T w v o
    → Weight w (total branch_nodes v + if_some (total stmt_nodes) o) (total branch_count v + if_some (total stmt_count) o)
chains T p w [] None h = nothing w h
chains T p w [] (Some b) h = same_weight (p.is w (inr b) h) (omega arith) (omega arith)
chains T p w (a ∷ others) o h =
    same_weight (both h.2 (p.is h.0 (inl a) h.3) (chains T p h.1 others o h.4)) (omega arith) (omega arith)

weigh_chained : {T : Language ((Expr × List Stmt) ⊎ List Stmt)} → Weighs T else_nodes else_count
    → Weighs (Chained T) (chain_by branch_nodes (total stmt_nodes)) (chain_by branch_count (total stmt_count))
weigh_chained {T} p = record { is = λ w v h. chains T p w v.0 v.1 h }

chain_nodes : (v : List (Expr × List Stmt)) (o : Option (List Stmt)) → total branch_nodes v
    + if_some (total stmt_nodes) o ≡ total stmt_nodes (else_of v o)
chain_nodes [] None = refl
chain_nodes [] (Some b) = omega arith
chain_nodes (a ∷ others) o = omega (arith, nodes_if a.0 a.1 (else_of others o), chain_nodes others o)

chain_count : (v : List (Expr × List Stmt)) (o : Option (List Stmt)) → total branch_count v
    + if_some (total stmt_count) o ≡ total stmt_count (else_of v o)
chain_count [] None = refl
chain_count [] (Some b) = omega arith
chain_count (a ∷ others) o = omega (arith, count_if a.0 a.1 (else_of others o), chain_count others o)

weigh_if_part : {E : Language Expr} {S : Language Stmt} → Weighs E expr_nodes none → Weighs S stmt_nodes stmt_count
    → Weighs (IfPart E S) (λ v. 0 + (expr_nodes v.1.0 + total stmt_nodes v.1.1)) (λ v. 1 + (0 + total stmt_count v.1.1))
weigh_if_part p q = weigh_then weigh_statement (weigh_then (weigh_parens p) (weigh_block q))

weigh_else : {E : Language Expr} {S : Language Stmt} → Weighs E expr_nodes none → Weighs S stmt_nodes stmt_count
    → Weighs (ElsePart E S) else_nodes else_count
weigh_else p q = weigh_after (keyword words.Else) (weigh_either (weigh_as (weigh_block q)) (weigh_meaning
    (weigh_if_part p q) (λ a. omega arith) (λ a. omega arith)))

weigh_if : {E : Language Expr} {S : Language Stmt} → Weighs E expr_nodes none → Weighs S stmt_nodes stmt_count
    → Weighs (IfStatement E S) stmt_nodes stmt_count
weigh_if p q = weigh_meaning (weigh_then (weigh_if_part p q) (weigh_chained (weigh_else p q)))
    (λ a. omega (arith, nodes_if a.0.1.0 a.0.1.1 (else_of a.1.0 a.1.1), chain_nodes a.1.0 a.1.1))
    (λ a. omega (arith, count_if a.0.1.0 a.0.1.1 (else_of a.1.0 a.1.1), chain_count a.1.0 a.1.1))

pub weigh_stmt : (d : ℕ) → Weighs (Statement_at d) stmt_nodes stmt_count
weigh_stmt zero = weigh_assignment (weigh_expr zero)
weigh_stmt (suc d) = weigh_either (weigh_assignment (weigh_expr (suc d)))
    (weigh_either (weigh_if (weigh_expr d) (weigh_stmt d)) weigh_emission)
