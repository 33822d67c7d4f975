-- The forms of an expression: what is found of each from what is found of its parts.
use Rattle.std.proofs.Common.{◌≡◌, ℕ, ◌<◌, List, [], map, sym, ap, ◌∙◌, arith}
use Rattle.query_lang.specs.declared.{fault.Span.Span, fold.Op.Op, typing.Found.Found}
use Rattle.query_lang.specs.declared.query.Expr.{Expr, Not, Binary, Call, fold-roll-Expr, roll-Expr, map-Expr}
use Rattle.query_lang.specs.{declared.query.Expr.TheVariants.{rolls-Not, rolls-Binary, rolls-Call}, Checks.{Checked, and_then, collected}}
use Rattle.query_lang.specs.TypedExprs.{of_two, call_of, negation_checked, expr_step, expr_checked}
use Rattle.query_types.specs.Numbers.{greatest_of, number_step, greatest_number}
use Rattle.query_lang.specs.declared.query.Expr.TheOpen as expr

module _ (columns hidden : List ℕ) where
  abbrev checked : Expr → Checked Found
  checked = expr_checked columns hidden

  rolled : (x : expr.Expr-F Expr) {e w : Expr} → e ≡ w → roll-Expr x ≡ w
      → checked e ≡ expr_step columns hidden (map-Expr Expr (Checked Found) checked x)
  rolled x is rolls = ap checked (is ∙ sym rolls) ∙ fold-roll-Expr (Checked Found) (expr_step columns hidden) x

  pub not_is : {e : Expr} {span : Span} {x p : Expr} → e ≡ Not span x → p ≡ x → checked e ≡ and_then (checked p) (negation_checked span)
  not_is {span = span} {x} is ep = rolled (expr.Not span x) is (rolls-Not span x)
      ∙ ap (λ z. and_then (checked z) (negation_checked span)) (sym ep)

  pub binary_is : {e : Expr} {op : Op} {span : Span} {a b p q : Expr} → e ≡ Binary op span a b → p ≡ a → q ≡ b →
      checked e ≡ and_then (checked p) (λ x. and_then (checked q) (λ y. of_two op x.at x y))
  binary_is {op = op} {span} {a} {b} {p} is ep eq = rolled (expr.Binary op span a b) is (rolls-Binary op span a b)
      ∙ ap (λ z. and_then (checked z) (λ x. and_then (checked b) (λ y. of_two op x.at x y))) (sym ep)
      ∙ ap (λ z. and_then (checked p) (λ x. and_then (checked z) (λ y. of_two op x.at x y))) (sym eq)

  pub call_is : {e : Expr} {op : Op} {span : Span} {xs p : List Expr} → e ≡ Call op span xs → p ≡ xs →
      checked e ≡ and_then (collected [] (map checked p)) (call_of op span)
  call_is {op = op} {span} {xs} is ep =
      rolled (expr.Call op span xs) is (rolls-Call op span xs)
      ∙ ap (λ l. and_then (collected [] (map checked l)) (call_of op span)) (sym ep)

number_rolled : (x : expr.Expr-F Expr) {e w : Expr} → e ≡ w → roll-Expr x ≡ w
    → greatest_number e ≡ number_step (map-Expr Expr ℕ greatest_number x)
number_rolled x is rolls = ap greatest_number (is ∙ sym rolls) ∙ fold-roll-Expr ℕ number_step x

pub not_number : {e : Expr} {span : Span} {x p : Expr} {most : ℕ} → e ≡ Not span x → p ≡ x → greatest_number p < most
    → greatest_number e < most
not_number {span = span} {x} is ep h =
    let same = number_rolled (expr.Not span x) is (rolls-Not span x) in omega (arith, ap greatest_number ep)

pub binary_number : {e : Expr} {op : Op} {span : Span} {a b p q : Expr} {most : ℕ} → e ≡ Binary op span a b → p ≡ a → q ≡ b
    → greatest_number p < most → greatest_number q < most → greatest_number e < most
binary_number {op = op} {span} {a} {b} is ep eq h k =
    let same = number_rolled (expr.Binary op span a b) is (rolls-Binary op span a b) in
    omega (arith, ap greatest_number ep, ap greatest_number eq)

pub call_number : {e : Expr} {op : Op} {span : Span} {xs p : List Expr} {most : ℕ} → e ≡ Call op span xs → p ≡ xs
    → greatest_of (map greatest_number p) < most → greatest_number e < most
call_number {op = op} {span} {xs} is ep h =
    let same = number_rolled (expr.Call op span xs) is (rolls-Call op span xs) ∙ ap (λ l. greatest_of (map greatest_number l)) (sym ep) in
    omega arith
