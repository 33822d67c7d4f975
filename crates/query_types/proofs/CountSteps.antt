-- How many nodes an expression and a choice have, how many statements a choice has, and the greatest number of a list.
use Rattle.std.proofs.Common.{◌≡◌, ℕ, ◌+◌, ◌<◌, ◌≤◌, List, length, get_or, drop, map, sum, sum_by, sym, ap, ◌∙◌, arith}
use Rattle.std.{proofs.lemmas.List.{drop_more, drop_all, Sums.{sum-map, get_or-le-sum_by, sum_by-drop_more}}, specs.Prelude.max}
use Rattle.query_lang.specs.declared.{fault.Span.Span, fold.Op.Op, query.Stmt.TheVariants.rolls-If}
use Rattle.query_lang.specs.declared.query.Expr.{Expr, Not, Binary, Call, fold-roll-Expr, TheVariants.{rolls-Not, rolls-Binary, rolls-Call}}
use Rattle.query_lang.specs.declared.query.Stmt.{Stmt, If, fold-roll-Stmt}
use Rattle.query_lang.specs.TypedFolds.{nodes_step, expr_nodes, stmt_nodes_step, stmt_nodes, count_step, stmt_count}
use Rattle.query_types.specs.Numbers.{greatest_of}
use Rattle.query_lang.specs.declared.query.Expr.TheOpen as expr
use Rattle.query_lang.specs.declared.query.Stmt.TheOpen as stmt

module _ {X : Type 0} (f : X → ℕ) (xs : List X) (i : ℕ) where
  -- an item of a list counts for no more than the list, and the items from it on are it and those after it
  pub item_within : {x : X} → i < length xs → x ≡ get_or xs i x → f x ≤ sum_by f xs
  item_within {x} h is = omega (arith, ap f is, get_or-le-sum_by f xs i x h)

  pub item_first : {x : X} → i < length xs → x ≡ get_or xs i x → sum_by f (drop i xs) ≡ f x + sum_by f (drop (i + 1) xs)
  item_first {x} h is = omega (arith, ap f is, sum_by-drop_more f xs i x h)

  -- the items that are left, with one of them counted
  pub item_counted : {x : X} (n : ℕ) {m all : ℕ} → i < length xs → x ≡ get_or xs i x → n + sum_by f (drop i xs) ≡ all → m ≡ f x
      → (n + m) + sum_by f (drop (i + 1) xs) ≡ all
  item_counted n h is so e = omega (arith, item_first h is, so, e)

  pub item_fits : {x : X} (n : ℕ) {m all most : ℕ} → i < length xs → x ≡ get_or xs i x → n + sum_by f (drop i xs) ≡ all → m ≡ f x
      → all < most → n + m < most
  item_fits n h is so e lt = omega (arith, item_first h is, so, e, lt)

  -- the greatest of those before, this one and those after
  pub greatest_more : {x : X} {most all : ℕ} → i < length xs → x ≡ get_or xs i x → f x < most
      → (greatest_of (map f (drop i xs)) < most → all < most) → greatest_of (map f (drop (i + 1) xs)) < most → all < most
  greatest_more {x} h is small so rest =
      let e : greatest_of (map f (drop i xs)) ≡ max (f x) (greatest_of (map f (drop (i + 1) xs))) =
      ap (λ l. greatest_of (map f l)) (drop_more xs i x h) ∙ sym (ap (λ y. max (f y) (greatest_of (map f (drop (i + 1) xs)))) is) in
      so (both _ _ _ _ e small rest)
    where
      both : (a b most c : ℕ) → c ≡ max a b → a < most → b < most → c < most
      both a b most c e h k = omega arith

  pub greatest_ends : {most all : ℕ} → length xs ≤ i → 0 < most → (greatest_of (map f (drop i xs)) < most → all < most) → all < most
  greatest_ends {most} h some so = so (rw (drop_all i xs h) some)

both : (f : Stmt → ℕ) (n : ℕ) {a b p q : List Stmt} → p ≡ a → q ≡ b → n + sum (map f a) + sum (map f b) ≡ n + sum_by f p + sum_by f q
both f n {a} {b} {p} ep eq =
    ap (λ x. n + x + sum (map f b)) (sum-map f a ∙ ap (sum_by f) (sym ep))
    ∙ ap (λ y. n + sum_by f p + y) (sum-map f b ∙ ap (sum_by f) (sym eq))

pub nodes_if : {s : Stmt} {c : Expr} {a b p q : List Stmt} → s ≡ If c a b → p ≡ a → q ≡ b
    → stmt_nodes s ≡ expr_nodes c + sum_by stmt_nodes p + sum_by stmt_nodes q
nodes_if {c = c} {a} {b} is ep eq =
    ap stmt_nodes (is ∙ sym (rolls-If c a b)) ∙ fold-roll-Stmt ℕ stmt_nodes_step (stmt.If c a b) ∙ both stmt_nodes (expr_nodes c) ep eq

pub count_if : {s : Stmt} {c : Expr} {a b p q : List Stmt} → s ≡ If c a b → p ≡ a → q ≡ b
    → stmt_count s ≡ 1 + sum_by stmt_count p + sum_by stmt_count q
count_if {c = c} {a} {b} is ep eq =
    ap stmt_count (is ∙ sym (rolls-If c a b)) ∙ fold-roll-Stmt ℕ count_step (stmt.If c a b) ∙ both stmt_count 1 ep eq

pub nodes_not : {e : Expr} {span : Span} {x p : Expr} → e ≡ Not span x → p ≡ x → expr_nodes e ≡ 1 + expr_nodes p
nodes_not {span = span} {x} is ep =
    ap expr_nodes (is ∙ sym (rolls-Not span x)) ∙ fold-roll-Expr ℕ nodes_step (expr.Not span x) ∙ ap (λ z. 1 + expr_nodes z) (sym ep)

pub nodes_binary : {e : Expr} {op : Op} {span : Span} {a b p q : Expr} → e ≡ Binary op span a b → p ≡ a → q ≡ b
    → expr_nodes e ≡ 1 + expr_nodes p + expr_nodes q
nodes_binary {op = op} {span} {a} {b} {p} is ep eq =
    ap expr_nodes (is ∙ sym (rolls-Binary op span a b)) ∙ fold-roll-Expr ℕ nodes_step (expr.Binary op span a b)
    ∙ ap (λ z. 1 + expr_nodes z + expr_nodes b) (sym ep) ∙ ap (λ z. 1 + expr_nodes p + expr_nodes z) (sym eq)

pub nodes_call : {e : Expr} {op : Op} {span : Span} {xs p : List Expr} → e ≡ Call op span xs → p ≡ xs
    → expr_nodes e ≡ 1 + sum_by expr_nodes p
nodes_call {op = op} {span} {xs} is ep =
    ap expr_nodes (is ∙ sym (rolls-Call op span xs)) ∙ fold-roll-Expr ℕ nodes_step (expr.Call op span xs)
    ∙ ap (λ n. 1 + n) (sum-map expr_nodes xs ∙ ap (sum_by expr_nodes) (sym ep))
