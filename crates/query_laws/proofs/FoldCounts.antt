-- How many nodes and statements the examples' statements have.
use Rattle.std.proofs.Common.{◌≡◌, ℕ, ◌+◌, List, [], ◌∷◌, map, refl, ap, ◌∙◌}
use Rattle.std.specs.Prelude.{sum}
use Rattle.query_lang.specs.declared.query.Expr.TheVariants.{Number, Named, Binary, rolls-Number, rolls-Named, rolls-Binary}
use Rattle.query_laws.proofs.Terms.{Op, Expr, Name, Stmt, Assign, If, Emit, rolls-Assign, rolls-If, rolls-Emit, expr_nodes, nodes_step}
use Rattle.query_laws.proofs.Terms.{stmt_nodes, stmt_nodes_step, stmt_count, count_step, fold_nodes, fold_statements}
use Rattle.query_laws.proofs.Layers.{expr_at, stmt_at}
use Rattle.query_laws.specs.{TypingExamples.here, FoldExamples.{a_fold, one_more, on_state, on_argument, below_9}}

-- ---- each form

node_number : (n : ℕ) → expr_nodes (Number n here) ≡ 1
node_number n = expr_at nodes_step _ (rolls-Number n here)

node_named : (x : Name) → expr_nodes (Named x) ≡ 1
node_named x = expr_at nodes_step _ (rolls-Named x)

node_binary : (op : Op) (a b : Expr) → expr_nodes (Binary op here a b) ≡ 1 + expr_nodes a + expr_nodes b
node_binary op a b = expr_at nodes_step _ (rolls-Binary op here a b)

nodes_assign : (x : Name) (e : Expr) → stmt_nodes (Assign x e) ≡ expr_nodes e
nodes_assign x e = stmt_at stmt_nodes_step _ (rolls-Assign x e)

nodes_if : (c : Expr) (a b : List Stmt) → stmt_nodes (If c a b) ≡ expr_nodes c + sum (map stmt_nodes a) + sum (map stmt_nodes b)
nodes_if c a b = stmt_at stmt_nodes_step _ (rolls-If c a b)

nodes_emit : stmt_nodes (Emit here) ≡ 0
nodes_emit = stmt_at stmt_nodes_step _ (rolls-Emit here)

count_assign : (x : Name) (e : Expr) → stmt_count (Assign x e) ≡ 1
count_assign x e = stmt_at count_step _ (rolls-Assign x e)

count_if : (c : Expr) (a b : List Stmt) → stmt_count (If c a b) ≡ 1 + sum (map stmt_count a) + sum (map stmt_count b)
count_if c a b = stmt_at count_step _ (rolls-If c a b)

count_emit : stmt_count (Emit here) ≡ 1
count_emit = stmt_at count_step _ (rolls-Emit here)

-- ---- the parts of the examples

-- an operator between two expressions of one node
three_nodes : (op : Op) (a b : Expr) → expr_nodes a ≡ 1 → expr_nodes b ≡ 1 → expr_nodes (Binary op here a b) ≡ 3
three_nodes _ a b p q = node_binary _ a b ∙ ap (λ n. 1 + n + expr_nodes b) p ∙ ap (λ n. 1 + 1 + n) q

state_nodes : expr_nodes on_state ≡ 3
state_nodes = three_nodes _ _ _ (node_number 0) (node_named _)

argument_nodes : expr_nodes on_argument ≡ 3
argument_nodes = three_nodes _ _ _ (node_number 0) (node_named _)

below_nodes : expr_nodes below_9 ≡ 3
below_nodes = three_nodes _ _ _ (node_named _) (node_number 9)

one_more_nodes : stmt_nodes one_more ≡ 3
one_more_nodes = nodes_assign _ _ ∙ three_nodes _ _ _ (node_named _) (node_number 1)

one_more_count : stmt_count one_more ≡ 1
one_more_count = count_assign _ _

-- a choice by a condition of three nodes, of what its blocks have
choice_nodes : (c : Expr) (a b : List Stmt) {n m : ℕ} → expr_nodes c ≡ 3 → sum (map stmt_nodes a) ≡ n → sum (map stmt_nodes b) ≡ m
    → stmt_nodes (If c a b) ≡ 3 + n + m
choice_nodes c a b {n} p q r = nodes_if c a b ∙ ap (λ z. z + sum (map stmt_nodes a) + sum (map stmt_nodes b)) p
    ∙ ap (λ z. 3 + z + sum (map stmt_nodes b)) q ∙ ap (λ z. 3 + n + z) r

choice_count : (c : Expr) (a b : List Stmt) {n m : ℕ} → sum (map stmt_count a) ≡ n → sum (map stmt_count b) ≡ m → stmt_count (If c a b) ≡ 1
    + n + m
choice_count c a b {n} q r = count_if c a b ∙ ap (λ z. 1 + z + sum (map stmt_count b)) q ∙ ap (λ z. 1 + n + z) r

-- a block of one statement, and of two
alone : {s n : ℕ} → s ≡ n → sum (s ∷ []) ≡ sum (n ∷ [])
alone p = ap (λ z. sum (z ∷ [])) p

pair : {s t n m : ℕ} → s ≡ n → t ≡ m → sum (s ∷ t ∷ []) ≡ sum (n ∷ m ∷ [])
pair {t} {n} p q = ap (λ z. sum (z ∷ t ∷ [])) p ∙ ap (λ z. sum (n ∷ z ∷ [])) q

-- ---- the examples

-- the nodes and statements of a fold
pub record Counts (body : List Stmt) (n m : ℕ) : Type 0 where
  pub nodes : fold_nodes (a_fold body) ≡ n
  pub statements : fold_statements (a_fold body) ≡ m

-- of one statement
one : {s : Stmt} {n m : ℕ} → stmt_nodes s ≡ n → stmt_count s ≡ m → Counts (s ∷ []) (sum (n ∷ [])) (sum (m ∷ []))
one p q = record { nodes = alone p; statements = alone q }

pub count_counts : Counts (one_more ∷ []) 3 1
count_counts = one one_more_nodes one_more_count

pub emit_counts : Counts (Emit here ∷ []) 0 1
emit_counts = one nodes_emit count_emit

pub choice_counts : Counts (If on_state (one_more ∷ []) [] ∷ []) 6 2
choice_counts = one (choice_nodes _ _ _ state_nodes (alone one_more_nodes) refl) (choice_count _ _ _ (alone one_more_count) refl)

pub argument_counts : Counts (If on_argument (one_more ∷ Emit here ∷ []) [] ∷ []) 6 3
argument_counts = one (choice_nodes _ _ _ argument_nodes (pair one_more_nodes nodes_emit) refl)
    (choice_count _ _ _ (pair one_more_count count_emit) refl)

pub else_counts : Counts (If on_argument (If below_9 [] (Emit here ∷ []) ∷ []) [] ∷ []) 6 3
else_counts = one (choice_nodes _ _ _ argument_nodes (alone (choice_nodes _ _ _ below_nodes refl (alone nodes_emit))) refl)
    (choice_count _ _ _ (alone (choice_count _ _ _ refl (alone count_emit))) refl)
