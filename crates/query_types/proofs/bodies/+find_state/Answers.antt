-- The first state variable of an expression is that of its first operand with one, and an operand has fewer nodes.
use Rattle.std.proofs.Common.{◌≡◌, ℕ, ◌+◌, ◌<◌, Bool, true, false, if◌then◌else◌, List, length, get_or, drop, map, Option, Some, None}
use Rattle.std.{proofs.{Common.{refl, sym, ap, ◌∙◌, arith}, lemmas.List.{drop_more, at_drop_all}}, specs.{Bool.then_some, Option.option_or}}
use Rattle.query_lang.specs.declared.{fault.Span.Span, fold.Op.Op, query.Name.Name}
use Rattle.query_lang.specs.declared.query.Expr.{Expr, Number, Named, Not, Binary, Call, fold-roll-Expr, roll-Expr, map-Expr}
use Rattle.query_lang.specs.declared.query.Expr.TheVariants.{rolls-Number, rolls-Named, rolls-Not, rolls-Binary, rolls-Call}
use Rattle.query_lang.specs.{Checks.is_among, TypedFolds.{or_else, first_of, state_step, state_in, expr_nodes}}
use Rattle.query_types.proofs.CountSteps.{item_within, nodes_not, nodes_binary, nodes_call}
use Rattle.query_lang.specs.declared.query.Expr.TheOpen as expr
use Rattle.query_types.proofs.bodies.+find_state.Goals as goal

module _ (states : List ℕ) where
  rolled : (x : expr.Expr-F Expr) {e w : Expr} → e ≡ w → roll-Expr x ≡ w
      → state_in states e ≡ state_step states (map-Expr Expr (Option Span) (state_in states) x)
  rolled x is rolls = ap (state_in states) (is ∙ sym rolls) ∙ fold-roll-Expr (Option Span) (state_step states) x

  number_in : {e : Expr} {n : ℕ} {span : Span} → e ≡ Number n span → None ≡ state_in states e
  number_in {n = n} {span} is = sym (rolled (expr.Number n span) is (rolls-Number n span))

  name_in : {e : Expr} {name : Name} (among : Bool) {found : Option Span} → e ≡ Named name → among ≡ is_among name.id states
      → found ≡ then_some among name.span → found ≡ state_in states e
  name_in {name = name} among is ea so =
      so ∙ same among ∙ ap (λ (b : Bool). if b then Some name.span else None) ea ∙ sym (rolled (expr.Named name) is (rolls-Named name))
    where
      same : (b : Bool) → then_some b name.span ≡ (if b then Some name.span else None)
      same true = refl
      same false = refl

  not_in : {e : Expr} {span : Span} {x p : Expr} {found : Option Span} → e ≡ Not span x → p ≡ x → found ≡ state_in states p
      → found ≡ state_in states e
  not_in {span = span} {x} is ep so = so ∙ ap (state_in states) ep ∙ sym (rolled (expr.Not span x) is (rolls-Not span x))

  binary_in : {e : Expr} {op : Op} {span : Span} {a b p q : Expr} {first second found : Option Span} → e ≡ Binary op span a b → p ≡ a
      → q ≡ b → first ≡ state_in states p → second ≡ state_in states q → found ≡ option_or first second → found ≡ state_in states e
  binary_in {op = op} {span} {a} {b} {first = first} {second} is ep eq ef es so =
      so ∙ same first second
      ∙ ap (λ r. or_else r second) (ef ∙ ap (state_in states) ep)
      ∙ ap (or_else (state_in states a)) (es ∙ ap (state_in states) eq)
      ∙ sym (rolled (expr.Binary op span a b) is (rolls-Binary op span a b))
    where
      same : (x y : Option Span) → option_or x y ≡ or_else x y
      same (Some span) y = refl
      same None y = refl

  call_in : {e : Expr} {op : Op} {span : Span} {xs p : List Expr} → e ≡ Call op span xs → p ≡ xs
      → first_of (map (state_in states) p) ≡ state_in states e
  call_in {op = op} {span} {xs} is ep =
      ap (λ l. first_of (map (state_in states) l)) ep ∙ sym (rolled (expr.Call op span xs) is (rolls-Call op span xs))

  -- what is left of a call's arguments, from an argument on
  turn : (xs : List Expr) (i : ℕ) {x : Expr} → i < length xs → x ≡ get_or xs i x
      → first_of (map (state_in states) (drop i xs)) ≡ or_else (state_in states x) (first_of (map (state_in states) (drop (i + 1) xs)))
  turn xs i {x} h is =
      ap (λ l. first_of (map (state_in states) l)) (drop_more xs i x h)
      ∙ sym (ap (λ y. or_else (state_in states y) (first_of (map (state_in states) (drop (i + 1) xs)))) is)

  goes_on : (xs : List Expr) (i : ℕ) {x : Expr} {all : Option Span} → i < length xs → x ≡ get_or xs i x → None ≡ state_in states x
      → first_of (map (state_in states) (drop i xs)) ≡ all → first_of (map (state_in states) (drop (i + 1) xs)) ≡ all
  goes_on xs i h is none so =
      ap (λ r. or_else r (first_of (map (state_in states) (drop (i + 1) xs)))) none ∙ sym (turn xs i h is) ∙ so

  stops : (xs : List Expr) (i : ℕ) {x : Expr} {all : Option Span} {at : Span} → i < length xs → x ≡ get_or xs i x
      → Some at ≡ state_in states x → first_of (map (state_in states) (drop i xs)) ≡ all → Some at ≡ all
  stops xs i h is found so =
      ap (λ r. or_else r (first_of (map (state_in states) (drop (i + 1) xs)))) found ∙ sym (turn xs i h is) ∙ so

pub find_state-requires : goal.find_state-requires
find_state-requires t c = (omega (arith, nodes_not c.in-Not.is c.get.ensures, c.decreases), tt)

pub find_state-first-requires : goal.find_state-first-requires
find_state-first-requires t c = (omega (arith, nodes_binary c.in-Binary.is c.get-in-Binary.ensures refl, c.decreases), tt)

pub find_state-requires-in-Binary : goal.find_state-requires-in-Binary
find_state-requires-in-Binary t c = (omega (arith, nodes_binary c.in-Binary.is refl c.get-in-Binary-2.ensures, c.decreases), tt)

pub find_state-requires-in-arguments : goal.find_state-requires-in-arguments
find_state-requires-in-arguments t c = (
  omega (
    arith,
    nodes_call c.in-Call.is c.as_slice-argument-items.ensures,
    item_within expr_nodes c.as_slice-argument-items.result.now c.arguments.argument-index c.arguments-test.true c.argument-item.is,
    c.decreases,
  ),
  tt,
)

pub returns-in-Number : goal.returns-in-Number
returns-in-Number t c = number_in _ c.in-Number.is

pub returns-in-Named : goal.returns-in-Named
returns-in-Named t c = name_in _ _ c.in-Named.is c.has_name.ensures c.then_some.ensures

pub returns-in-Not : goal.returns-in-Not
returns-in-Not t c = not_in _ c.in-Not.is c.get.ensures c.find_state.ensures

pub returns-in-Binary : goal.returns-in-Binary
returns-in-Binary t c =
    binary_in _ c.in-Binary.is c.get-in-Binary.ensures c.get-in-Binary-2.ensures c.find_state-first.ensures c.find_state-in-Binary.ensures
    c.or.ensures

pub arguments-preserved : goal.arguments-preserved
arguments-preserved t c =
    goes_on _ c.as_slice-argument-items.result.now c.arguments.argument-index c.arguments-test.true c.argument-item.is c.in_default.ensures
    c.arguments.invariant

pub returns-after-arguments : goal.returns-after-arguments
returns-after-arguments t c =
    sym (at_drop_all (λ l. first_of (map (state_in c.args.states.now) l)) c.as_slice-argument-items.result.now c.arguments.argument-index
    c.arguments-test.false)
    ∙ c.arguments.invariant ∙ call_in _ c.in-Call.is c.as_slice-argument-items.ensures

pub returns-in-Some : goal.returns-in-Some
returns-in-Some t c =
    stops _ c.as_slice-argument-items.result.now c.arguments.argument-index c.arguments-test.true c.argument-item.is c.in-Some.ensures
    c.arguments.invariant ∙ call_in _ c.in-Call.is c.as_slice-argument-items.ensures
