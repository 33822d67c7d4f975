-- The first state variable of an expression, which a fault in a line of conditions tells.
use Rattle.std.proofs.Common.{◌≡◌, ℕ, Bool, true, false, cond, List, [], ◌∷◌, map, Option, Some, None, refl, sym, subst}
use Rattle.query_lang.specs.declared.query.Expr.TheOpen as expr
use Rattle.query_lang.specs.declared.query.Expr.TheVariants as whole
use Rattle.query_laws.proofs.Terms.{Span, TypedExpr, Name, Expr, rolls-Named, rolls-Not, rolls-Binary, rolls-Call, Enclosing, is_among}
use Rattle.query_laws.proofs.Terms.{or_else, first_of, state_step, state_in, inside, IsOneOf, HasPart, Kind, Condition, operand_kind}
use Rattle.query_laws.specs.Demands as parts
use Rattle.query_laws.proofs.Layers.{OfExprLayers, of_expr}

abbrev pub Inside : Name → Expr → Type 0
Inside x e = (k : Kind) → (l : Kind) × HasPart k e l (whole.Named x)

abbrev pub State : List ℕ → Expr → Span → Type 0
State states e span = (x : Name) × Inside x e × (x.span ≡ span) × (is_among x.id states ≡ true)

abbrev HasState : List ℕ → Expr → Option Span → Type 0
HasState states e o = (span : Span) → o ≡ Some span → State states e span

abbrev With : List ℕ → Type 0
With states = (e : Expr) × HasState states e (state_in states e)

abbrev exprs : (states : List ℕ) → List (With states) → List Expr
exprs _ es = map (λ a. a.0) es

same_span : {a b : Span} → (let o : Option Span = Some a in o) ≡ Some b → a ≡ b
same_span e = cc e

pub either_state : {P : Type 0} (a : Option Span) {b : Option Span} {span : Span} → or_else a b ≡ Some span → (a ≡ Some span → P)
    → (b ≡ Some span → P) → P
either_state None e _ other = other e
either_state (Some x) e one _ = one e

some_argument : (states : List ℕ) (es : List (With states)) {span : Span} → first_of (map (state_in states) (exprs states es)) ≡ Some span
    → (a : Expr) × IsOneOf a (exprs states es) × State states a span
some_argument _ [] e = cc e
some_argument states (a ∷ es) {span} e = either_state (state_in states a.0) e (λ is. (a.0, parts.first, a.1 span is))
    (λ is. let m = some_argument states es is in (m.0, parts.later a.0 (exprs states es) m.1, m.2))

state_moved : (states : List ℕ) {e f : Expr} {span : Span} → f ≡ e → State states e span → State states f span
state_moved states {span} is h = subst (λ z. State states z span) (sym is) h

named_state : (states : List ℕ) {x : Name} {span : Span} (b : Bool) → is_among x.id states ≡ b → cond b (Some x.span) None ≡ Some span
    → State states (whole.Named x) span
named_state _ {x} true is e = (x, λ k. (k, parts.whole), same_span e, is)
named_state _ false _ e = cc e

state_of : (states : List ℕ) → OfExprLayers (state_step states) (HasState states)
state_of _ (expr.Number n _) _ e = cc e
state_of _ (expr.Named x) _ e = state_moved _ (rolls-Named x) (named_state _ _ refl e)
state_of _ (expr.Not at a) span e =
    let m = a.1 span e in
    state_moved _ (rolls-Not at a.0) (m.0, λ k. let p = m.1 Condition in (p.0, parts.of_not _ p.1), m.2, m.3)
state_of _ (expr.Binary op at a b) span e = state_moved _ (rolls-Binary op at a.0 b.0) (
    either_state _ e (λ is.
    let m = a.1 span is in
    (m.0, λ k. let p = m.1 (operand_kind op) in (p.0, parts.of_left _ _ _ _ p.1), m.2, m.3)) (λ is.
    let m = b.1 span is in
    (m.0, λ k. let p = m.1 (operand_kind op) in (p.0, parts.of_right _ _ _ p.1), m.2, m.3)))
state_of _ (expr.Call op at args) _ e =
    let c = some_argument _ _ e in
    let m = c.2 in
    state_moved _ (rolls-Call op at (exprs _ args)) (
      m.0,
      λ k. let p = m.1 (operand_kind op) in (p.0, parts.of_argument _ _ c.1 p.1),
      m.2,
      m.3,
    )

pub has_state : (states : List ℕ) (e : Expr) → HasState states e (state_in states e)
has_state states = of_expr (state_step states) (HasState states) (state_of states)

-- what the check knows of the conditions around
abbrev pub Knows : List ℕ → List Expr → Enclosing → Type 0
Knows states around outer = (span : Span) → outer.state ≡ Some span → (c : Expr) × IsOneOf c around × (state_in states c ≡ Some span)

pub knows_inside : (states : List ℕ) {around : List Expr} (outer : Enclosing) {c : Expr} (t : TypedExpr) → Knows states around outer
    → Knows states (c ∷ around) (inside states outer c t)
knows_inside _ {around} _ {c} t knows span e = either_state _ e
    (λ is. let k = knows span is in (k.0, parts.later c around k.1, k.2)) (λ is. (c, parts.first, is))
