-- What the ways to build a parser keep of the nodes and statements among a word's leaves.
use Rattle.std.proofs.Common.{◌≡◌, ℕ, ◌+◌, List, [], ◌∷◌, ◌++◌, map, Option, Some, None, refl, sym, ap, ◌∙◌, arith, inl, inr, ◌⊎◌}
use Rattle.std.specs.Prelude.{sum, sum_by, fold}
use Rattle.query_lang.specs.declared.{fault.Span.Span, fold.Op.Op, query.Name.Name, token.{TokenKind.TokenKind, Token.Token}}
use Rattle.query_lang.specs.declared.query.Expr.{Expr, Number, Named, Not, Binary, Call, fold-roll-Expr}
use Rattle.query_lang.specs.declared.query.Expr.TheVariants.{rolls-Number, rolls-Named, rolls-Not, rolls-Binary, rolls-Call}
use Rattle.query_lang.specs.declared.query.Stmt.{Stmt, Assign, If, Emit, fold-roll-Stmt, TheVariants.{rolls-Assign, rolls-If, rolls-Emit}}
use Rattle.query_lang.specs.TypedFolds.{expr_nodes, nodes_step, stmt_nodes, stmt_nodes_step, stmt_count, count_step}
use Rattle.query_grammar.specs.Language.{Role, Plain, Node, Statement, Opening, Leaf, Language, Word, Then, Repeated, AtMostOnce, Either}
use Rattle.query_grammar.specs.{Language.Meaning, Kinds.sign, Grammar.{listed, After, Before, Between, Separated, Listed}}
use Rattle.query_lang.specs.declared.query.Expr.TheOpen as expr
use Rattle.query_lang.specs.declared.query.Stmt.TheOpen as stmt
use Rattle.query_lang.specs.declared.token.Mark.TheVariants as marks

-- ---- sums

abbrev pub total : {X : Type 0} → (X → ℕ) → List X → ℕ
total f [] = 0
total f (x ∷ xs) = f x + total f xs

sum_from : {X : Type 0} (f : X → ℕ) (n : ℕ) (xs : List X) → fold (λ (a : ℕ) (x : X). a + f x) n xs ≡ n + total f xs
sum_from f n [] = omega arith
sum_from f n (x ∷ xs) = omega (arith, sum_from f (n + f x) xs)

pub sum_total : {X : Type 0} (f : X → ℕ) (xs : List X) → sum_by f xs ≡ total f xs
sum_total f xs = omega (arith, sum_from f 0 xs)

total_map : {X : Type 0} (f : X → ℕ) (xs : List X) → total (λ (n : ℕ). n) (map f xs) ≡ total f xs
total_map f [] = refl
total_map f (x ∷ xs) = ap (λ (n : ℕ). f x + n) (total_map f xs)

pub sum_map : {X : Type 0} (f : X → ℕ) (xs : List X) → sum (map f xs) ≡ total f xs
sum_map f xs = sum_total (λ (n : ℕ). n) (map f xs) ∙ total_map f xs

-- ---- the trees

pub node_number : (n : ℕ) (s : Span) → expr_nodes (Number n s) ≡ 1
node_number n s = ap expr_nodes (sym (rolls-Number n s)) ∙ fold-roll-Expr ℕ nodes_step (expr.Number n s)

pub node_named : (n : Name) → expr_nodes (Named n) ≡ 1
node_named n = ap expr_nodes (sym (rolls-Named n)) ∙ fold-roll-Expr ℕ nodes_step (expr.Named n)

pub node_not : (s : Span) (e : Expr) → expr_nodes (Not s e) ≡ 1 + expr_nodes e
node_not s e = ap expr_nodes (sym (rolls-Not s e)) ∙ fold-roll-Expr ℕ nodes_step (expr.Not s e)

pub node_binary : (op : Op) (s : Span) (a b : Expr) → expr_nodes (Binary op s a b) ≡ 1 + expr_nodes a + expr_nodes b
node_binary op s a b = ap expr_nodes (sym (rolls-Binary op s a b)) ∙ fold-roll-Expr ℕ nodes_step (expr.Binary op s a b)

pub node_call : (op : Op) (s : Span) (es : List Expr) → expr_nodes (Call op s es) ≡ 1 + total expr_nodes es
node_call op s es = ap expr_nodes (sym (rolls-Call op s es)) ∙ fold-roll-Expr ℕ nodes_step (expr.Call op s es)
    ∙ ap (λ (n : ℕ). 1 + n) (sum_map expr_nodes es)

pub nodes_assign : (n : Name) (e : Expr) → stmt_nodes (Assign n e) ≡ expr_nodes e
nodes_assign n e = ap stmt_nodes (sym (rolls-Assign n e)) ∙ fold-roll-Stmt ℕ stmt_nodes_step (stmt.Assign n e)

pub nodes_if : (c : Expr) (a b : List Stmt) → stmt_nodes (If c a b) ≡ expr_nodes c + total stmt_nodes a + total stmt_nodes b
nodes_if c a b = ap stmt_nodes (sym (rolls-If c a b)) ∙ fold-roll-Stmt ℕ stmt_nodes_step (stmt.If c a b)
    ∙ ap (λ (n : ℕ). expr_nodes c + n + sum (map stmt_nodes b)) (sum_map stmt_nodes a)
    ∙ ap (λ (n : ℕ). expr_nodes c + total stmt_nodes a + n) (sum_map stmt_nodes b)

pub nodes_emit : (s : Span) → stmt_nodes (Emit s) ≡ 0
nodes_emit s = ap stmt_nodes (sym (rolls-Emit s)) ∙ fold-roll-Stmt ℕ stmt_nodes_step (stmt.Emit s)

pub count_assign : (n : Name) (e : Expr) → stmt_count (Assign n e) ≡ 1
count_assign n e = ap stmt_count (sym (rolls-Assign n e)) ∙ fold-roll-Stmt ℕ count_step (stmt.Assign n e)

pub count_if : (c : Expr) (a b : List Stmt) → stmt_count (If c a b) ≡ 1 + total stmt_count a + total stmt_count b
count_if c a b = ap stmt_count (sym (rolls-If c a b)) ∙ fold-roll-Stmt ℕ count_step (stmt.If c a b)
    ∙ ap (λ (n : ℕ). 1 + n + sum (map stmt_count b)) (sum_map stmt_count a)
    ∙ ap (λ (n : ℕ). 1 + total stmt_count a + n) (sum_map stmt_count b)

pub count_emit : (s : Span) → stmt_count (Emit s) ≡ 1
count_emit s = ap stmt_count (sym (rolls-Emit s)) ∙ fold-roll-Stmt ℕ count_step (stmt.Emit s)

-- ---- leaves

abbrev pub is_node : Role → ℕ
is_node Plain = 0
is_node Node = 1
is_node Statement = 0
is_node Opening = 0

abbrev pub is_statement : Role → ℕ
is_statement Plain = 0
is_statement Node = 0
is_statement Statement = 1
is_statement Opening = 0

abbrev pub is_opening : Role → ℕ
is_opening Plain = 0
is_opening Node = 0
is_opening Statement = 0
is_opening Opening = 1

abbrev pub leaves_by : (Role → ℕ) → List Leaf → ℕ
leaves_by f w = total (λ (l : Leaf). f l.role) w

total_append : {X : Type 0} (f : X → ℕ) (u w : List X) → total f (u ++ w) ≡ total f u + total f w
total_append f [] w = omega arith
total_append f (x ∷ u) w = omega (arith, total_append f u w)

-- that many nodes and statements, and no first token of an item
pub record Weight (w : List Leaf) (n s : ℕ) : Type 0 where
  pub nodes : leaves_by is_node w ≡ n
  pub statements : leaves_by is_statement w ≡ s
  pub inner : leaves_by is_opening w ≡ 0

pub both : {w u x : List Leaf} {n s m t : ℕ} → w ≡ u ++ x → Weight u n s → Weight x m t → Weight w (n + m) (s + t)
both {u = u} {x} e f g = rw e (record {
  nodes = omega (arith, total_append (λ (l : Leaf). is_node l.role) u x, f.nodes, g.nodes);
  statements = omega (arith, total_append (λ (l : Leaf). is_statement l.role) u x, f.statements, g.statements);
  inner = omega (arith, total_append (λ (l : Leaf). is_opening l.role) u x, f.inner, g.inner);
})

pub nothing : (w : List Leaf) → w ≡ [] → Weight w 0 0
nothing w e = rw e (record { nodes = refl; statements = refl; inner = refl })

pub same_weight : {w : List Leaf} {n s m t : ℕ} → Weight w n s → n ≡ m → s ≡ t → Weight w m t
same_weight h e g = record { nodes = h.nodes ∙ e; statements = h.statements ∙ g; inner = h.inner }

-- each word of the language weighs what its meaning does
pub record Weighs {A : Type 0} (L : Language A) (f g : A → ℕ) : Type 0 where
  pub is : (w : List Leaf) (v : A) → L w v → Weight w (f v) (g v)

abbrev pub none : {A : Type 0} → A → ℕ
none v = 0

abbrev pub one : {A : Type 0} → A → ℕ
one v = 1

pub weigh_plain : {A : Type 0} {takes : Token → Option A} → Weighs (Word Plain takes) none none
weigh_plain = record {
  is = λ w v h. rw h.1 (record { nodes = refl; statements = refl; inner = refl });
}

pub weigh_node : {A : Type 0} {takes : Token → Option A} → Weighs (Word Node takes) one none
weigh_node = record {
  is = λ w v h. rw h.1 (record { nodes = refl; statements = refl; inner = refl });
}

pub weigh_statement : {A : Type 0} {takes : Token → Option A} → Weighs (Word Statement takes) none one
weigh_statement = record {
  is = λ w v h. rw h.1 (record { nodes = refl; statements = refl; inner = refl });
}

pub weigh_then : {A B : Type 0} {L : Language A} {M : Language B} {f g : A → ℕ} {f' g' : B → ℕ} → Weighs L f g → Weighs M f' g'
    → Weighs (Then L M) (λ v. f v.0 + f' v.1) (λ v. g v.0 + g' v.1)
weigh_then p q = record { is = λ w v h. both h.2 (p.is h.0 v.0 h.3) (q.is h.1 v.1 h.4) }

pub weigh_meaning : {A B : Type 0} {L : Language A} {h : A → B} {f g : A → ℕ} {f' g' : B → ℕ} → Weighs L f g → ((a : A) → f a ≡ f' (h a))
    → ((a : A) → g a ≡ g' (h a)) → Weighs (Meaning h L) f' g'
weigh_meaning {f' = f'} {g'} p e d = record { is = λ w v m. same_weight (p.is w m.0 m.1) (e m.0 ∙ ap f' m.2) (d m.0 ∙ ap g' m.2) }

-- where the meaning weighs by what it is made of
pub weigh_as : {A B : Type 0} {L : Language A} {h : A → B} {f g : B → ℕ} → Weighs L (λ a. f (h a)) (λ a. g (h a)) → Weighs (Meaning h L) f g
weigh_as p = weigh_meaning p (λ a. refl) (λ a. refl)

pub weigh_either : {A : Type 0} {L M : Language A} {f g : A → ℕ} → Weighs L f g → Weighs M f g → Weighs (Either L M) f g
weigh_either {A} {L} {M} {f} {g} p q = record { is = go }
  where
    go : (w : List Leaf) (v : A) → L w v ⊎ M w v → Weight w (f v) (g v)
    go w v (inl h) = p.is w v h
    go w v (inr h) = q.is w v h

pub weigh_repeated : {A : Type 0} {L : Language A} {f g : A → ℕ} → Weighs L f g → Weighs (Repeated L) (total f) (total g)
weigh_repeated {A} {L} {f} {g} p = record { is = λ w v h. go v w h }
  where
    go : (v : List A) (w : List Leaf) → Repeated L w v → Weight w (total f v) (total g v)
    go [] w h = nothing w h
    go (a ∷ others) w h = both h.2 (p.is h.0 a h.3) (go others h.1 h.4)

abbrev pub if_some : {A : Type 0} → (A → ℕ) → Option A → ℕ
if_some f None = 0
if_some f (Some a) = f a

pub weigh_once : {A : Type 0} {L : Language A} {f g : A → ℕ} → Weighs L f g → Weighs (AtMostOnce L) (if_some f) (if_some g)
weigh_once {A} {L} {f} {g} p = record { is = go }
  where
    go : (w : List Leaf) (v : Option A) → AtMostOnce L w v → Weight w (if_some f v) (if_some g v)
    go w None h = nothing w h
    go w (Some a) h = p.is w a h

pub weigh_same : {A : Type 0} {L : Language A} {f g f' g' : A → ℕ} → Weighs L f g → ((a : A) → f a ≡ f' a) → ((a : A) → g a ≡ g' a)
    → Weighs L f' g'
weigh_same p e d = record { is = λ w v h. same_weight (p.is w v h) (e v) (d v) }

-- ---- signs and words around

pub weigh_after : {A : Type 0} {L : Language A} {f g : A → ℕ} (k : TokenKind) → Weighs L f g → Weighs (After k L) f g
weigh_after k p = weigh_meaning (weigh_then weigh_plain p) (λ a. omega arith) (λ a. omega arith)

pub weigh_before : {A : Type 0} {L : Language A} {f g : A → ℕ} (k : TokenKind) → Weighs L f g → Weighs (Before L k) f g
weigh_before k p = weigh_meaning (weigh_then p weigh_plain) (λ a. omega arith) (λ a. omega arith)

pub weigh_between : {A : Type 0} {L : Language A} {f g : A → ℕ} (s t : TokenKind) → Weighs L f g → Weighs (Between s L t) f g
weigh_between s t p = weigh_after s (weigh_before t p)

pub weigh_separated : {A : Type 0} {L : Language A} {f g : A → ℕ} → Weighs L f g → Weighs (Separated L) (total f) (total g)
weigh_separated p = weigh_as (weigh_then p (weigh_repeated (weigh_after (sign marks.Comma) p)))

listed_is : {A : Type 0} (f : A → ℕ) (v : Option (List A)) → if_some (total f) v ≡ total f (listed v)
listed_is f None = refl
listed_is f (Some xs) = refl

pub weigh_listed : {A : Type 0} {L : Language A} {f g : A → ℕ} → Weighs L f g → Weighs (Listed L) (total f) (total g)
weigh_listed {f = f} {g} p = weigh_meaning (weigh_once (weigh_separated p)) (listed_is f) (listed_is g)
