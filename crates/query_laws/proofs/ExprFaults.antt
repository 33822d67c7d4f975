-- What a fault in an expression says.
use Rattle.std.proofs.Common.{◌≡◌, ℕ, ◌+◌, Bool, true, false, nat_eq, List, [], ◌∷◌, ◌++◌, length, map, Option, Some, None, Ok, Err, refl}
use Rattle.std.proofs.Common.{sym, ap, subst, ◌∙◌, arith}
use Rattle.query_lang.specs.declared.query.Expr.TheOpen as expr
use Rattle.query_lang.specs.declared.query.Expr.TheVariants as whole
use Rattle.query_laws.proofs.Terms.{WrongKind, WrongArity, BadConstant, QueryFault, Span, Op, TypedExpr, Name, Expr, fold-roll-Expr}
use Rattle.query_laws.proofs.Terms.{map-Expr, rolls-Named, rolls-Not, rolls-Binary, rolls-Call, Found, Known, Checked, collected, is_among}
use Rattle.query_laws.proofs.Terms.{place_from, place_of, slot_at, slot_of, is_operand, is_right_constant, of_two, call_of, expr_step}
use Rattle.query_laws.proofs.Terms.{expr_checked, condition_of, word_of, Kind, Word, Condition, other_kind, operand_kind, HasKind, IsNew}
use Rattle.query_laws.specs.{Asked.{ExprAsks, of_part, of_name, of_call, of_right, of_second}, Demands.{leftmost, leftmost_step, IsOneOf}}
use Rattle.query_laws.specs.Demands.{HasPart, Demand, AColumn, Typed, Constant, Tells, first, later, of_not, of_left, of_argument}
use Rattle.query_laws.specs.Demands as parts
use Rattle.query_laws.proofs.ExprComplete.{complete, operand, right, kind_condition, kind_word}
use Rattle.query_laws.proofs.{ExprSound.{kind_of, Each, collected_each, expr_sound}, FaultSteps.{at_span, same_fault, no_fault, not_both}}
use Rattle.query_laws.proofs.FaultSteps.{by_must, by_next, told, by_collected, broken, broken_at, broken_in, Broken}
use Rattle.query_laws.proofs.{FoldNames.{new_among, among_new}, Steps.{must_ok, same_ok, found_first, nat_other, by_cond}}
use Rattle.query_laws.proofs.Layers.{OfExprLayers, of_expr}

-- ---- names

none_from : (names : List ℕ) (at id : ℕ) → place_from at names id ≡ None → IsNew id names
none_from [] _ _ e = tt
none_from (name ∷ rest) at id e = by_cond (nat_eq name id) e (λ _ k. cc k) (λ is k. (nat_other is, none_from rest (at + 1) id k))

pub place_none : (names : List ℕ) (id : ℕ) → place_of names id ≡ None → IsNew id names
place_none _ _ e = none_from _ 0 _ e

pub not_new : (id : ℕ) (names : List ℕ) → is_among id names ≡ true → IsNew id names → ⊥
not_new _ _ is new = not_both _ (new_among _ _ new) is

pub slot_told : (columns hidden : List ℕ) (x : Name) {fault : QueryFault} → slot_of columns hidden x ≡ Err fault
    → (known : List Known) → Tells known fault.kind fault.span (AColumn columns hidden x.id x.span)
slot_told columns hidden x {fault} e known = go (place_of columns x.id) refl (is_among x.id hidden) refl e
  where
    go : (o : Option ℕ) → place_of columns x.id ≡ o → (b : Bool) → is_among x.id hidden ≡ b → slot_at o b x.span ≡ Err fault
        → Tells known fault.kind fault.span (AColumn columns hidden x.id x.span)
    go (Some _) _ b _ e = no_fault e
    go None is true among e = told _ _ (same_fault e) (refl, place_none _ _ is, not_new _ _ among)
    go None is false among e = told _ _ (same_fault e) (refl, place_none _ _ is, among_new _ _ among)

-- ---- the leftmost token

two_at : (op : Op) {at : Span} (x y : Found) {found : Found} → of_two op at x y ≡ Ok found → found.at ≡ at
two_at op x y {found} e =
    let one = must_ok (is_operand op x.sort) WrongKind x.at e in
    let two = must_ok (is_operand op y.sort) WrongKind y.at one.1 in
    let three = must_ok (is_right_constant op y.sort) BadConstant y.at two.1 in
    sym (ap (λ (f : Found). f.at) (same_ok _ found three.1))

call_at : (op : Op) {span : Span} (fs : List Found) {found : Found} → call_of op span fs ≡ Ok found → found.at ≡ span
call_at _ [] e = cc e
call_at _ (f ∷ []) e = cc e
call_at _ (f ∷ g ∷ []) e = two_at _ f g e
call_at _ (f ∷ g ∷ h ∷ _) e = cc e

abbrev StandsLeft : List ℕ → List ℕ → Expr → Type 0
StandsLeft columns hidden e = (found : Found) → expr_checked columns hidden e ≡ Ok found → found.at ≡ leftmost e

left_step : (columns hidden : List ℕ) (y : expr.Expr-F ((e : Expr) × StandsLeft columns hidden e)) {found : Found}
    → expr_step columns hidden (map-Expr Expr (Checked Found) (expr_checked columns hidden)
    (map-Expr ((e : Expr) × StandsLeft columns hidden e) Expr (λ a. a.0) y)) ≡ Ok found
    → found.at ≡ leftmost_step (map-Expr Expr Span leftmost (map-Expr ((e : Expr) × StandsLeft columns hidden e) Expr (λ a. a.0) y))
left_step _ _ (expr.Number n _) e = sym (ap (λ (f : Found). f.at) (same_ok _ _ e))
left_step columns hidden (expr.Named x) {found} e =
    let first = found_first (slot_of columns hidden x) _ found e in sym (ap (λ (f : Found). f.at) (same_ok _ found first.2))
left_step columns hidden (expr.Not _ a) {found} e =
    let first = found_first (expr_checked columns hidden a.0) _ found e in
    let one = must_ok _ _ _ first.2 in
    sym (ap (λ (f : Found). f.at) (same_ok _ found one.1))
left_step columns hidden (expr.Binary op _ a b) {found} e =
    let first = found_first (expr_checked columns hidden a.0) _ found e in
    let second = found_first (expr_checked columns hidden b.0) _ found first.2 in
    two_at op first.0 second.0 second.2 ∙ a.1 first.0 first.1
left_step columns hidden (expr.Call op _ args) {found} e =
    let first = found_first (collected [] (map (expr_checked columns hidden) (map (λ a. a.0) args))) _ found e in
    call_at op first.0 first.2

pub stands_left : (columns hidden : List ℕ) (e : Expr) → StandsLeft columns hidden e
stands_left columns hidden = of_expr (expr_step columns hidden) (λ e c. (found : Found) → c ≡ Ok found → found.at ≡ leftmost e)
    (λ y found e. left_step columns hidden y e ∙ sym (fold-roll-Expr Span leftmost_step _))

-- ---- what is asked of a part is asked

through : {k : Kind} {e : Expr} {l : Kind} {a : Expr} {m : Kind} {p : Expr} → HasPart k e l a → HasPart l a m p → HasPart k e m p
through parts.whole q = q
through (of_not _ h) q = of_not _ (through h q)
through (of_left _ _ a b h) q = of_left _ _ a b (through h q)
through (parts.of_right _ _ a h) q = parts.of_right _ _ a (through h q)
through (of_argument _ _ i h) q = of_argument _ _ i (through h q)

asks_through : {columns hidden : List ℕ} {k : Kind} {e : Expr} {l : Kind} {a : Expr} {d : Demand} → HasPart k e l a
    → ExprAsks columns hidden l a d → ExprAsks columns hidden k e d
asks_through p (of_part h) = of_part (through p h)
asks_through p (of_name x h) = of_name x (through p h)
asks_through p (of_call _ h) = of_call _ (through p h)
asks_through p (of_right _ x h) = of_right _ x (through p h)
asks_through p (of_second _ x h) = of_second _ x (through p h)

-- ---- kinds and constants

turned : (k l : Kind) → (k ≡ l → ⊥) → k ≡ other_kind l
turned Word Word differs = absurd (differs refl)
turned Word Condition _ = refl
turned Condition Word _ = refl
turned Condition Condition differs = absurd (differs refl)

-- an expression is of one kind
pub one_kind : {columns : List ℕ} {k l : Kind} {e : Expr} {s t : TypedExpr} → HasKind columns k e s → HasKind columns l e t → k ≡ l
one_kind p q =
    let f = complete [] p in
    let g = complete [] q in
    sym f.kind ∙ ap (λ (x : Found). kind_of x.sort) (same_ok f.found g.found (sym f.is ∙ g.is)) ∙ g.kind

module _ (columns hidden : List ℕ) (known : List Known) where
  -- something that an expression asks, of which the fault says that it isn't so
  abbrev ExprBroken : Kind → Expr → QueryFault → Type 0
  ExprBroken k e fault = Broken (ExprAsks columns hidden k e) known fault

  broken_through : {k : Kind} {e : Expr} {l : Kind} {a : Expr} {fault : QueryFault} → HasPart k e l a → ExprBroken l a fault
      → ExprBroken k e fault
  broken_through p b = broken_in (λ d. asks_through p) b

  kind_told : {l : Kind} (a : Expr) {x : Found} {fault : QueryFault} → expr_checked columns hidden a ≡ Ok x → at_span WrongKind x.at ≡ fault
      → (kind_of x.sort ≡ l → ⊥) → Tells known fault.kind fault.span (Typed columns l a)
  kind_told {l} a {x} is e other = told _ _ e (
    sym (stands_left _ _ a x is),
    (x.tree, subst (λ k. HasKind columns k a x.tree) (turned _ l other) (expr_sound _ a x is).rule),
  )

  two_told : {k : Kind} {e : Expr} {op : Op} (at : Span) {a b : Expr} {x y : Found} {fault : QueryFault}
      → expr_checked columns hidden a ≡ Ok x → expr_checked columns hidden b ≡ Ok y
      → ExprAsks columns hidden k e (Typed columns (operand_kind op) a) → ExprAsks columns hidden k e (Typed columns (operand_kind op) b)
      → ExprAsks columns hidden k e (Constant op b) → of_two op at x y ≡ Err fault → ExprBroken k e fault
  two_told _ {b} {y} p q left right_ constant is =
      by_must _ _ is (λ no same. broken _ left (kind_told _ p same (λ kind. not_both _ no (operand _ _ kind)))) (λ yes is.
      by_must _ _ is (λ no same. broken _ right_ (kind_told _ q same (λ kind. not_both _ no (operand _ _ kind)))) (λ yes is.
      by_must _ {kind = BadConstant} {span = y.at} _ is (λ no same.
      broken_at _ constant same (sym (stands_left _ _ b y q), λ h. not_both _ no (right _ _ _ b y q h))) (λ yes is. no_fault is)))

  -- ---- expressions

  abbrev IsTold : Expr → Checked Found → Type 0
  IsTold e c = (fault : QueryFault) → c ≡ Err fault → (k : Kind) → ExprBroken k e fault

  abbrev Told : Type 0
  Told = (e : Expr) × IsTold e (expr_checked columns hidden e)

  abbrev exprs : List Told → List Expr
  exprs args = map (λ a. a.0) args

  not_two : {k : Kind} {op : Op} {span : Span} (es : List Expr) {fault : QueryFault} → (length es ≡ 2 → ⊥)
      → at_span WrongArity span ≡ fault → ExprBroken k (whole.Call op span es) fault
  not_two _ other same = broken_at _ (of_call _ parts.whole) same (refl, other)

  call_told : {k : Kind} {op : Op} {span : Span} (es : List Expr) (fs : List Found) {fault : QueryFault}
      → Each columns hidden es fs → call_of op span fs ≡ Err fault → ExprBroken k (whole.Call op span es) fault
  call_told [] [] _ e = not_two _ (λ n. omega (arith, n)) (same_fault e)
  call_told (a ∷ []) (f ∷ []) _ e = not_two _ (λ n. omega (arith, n)) (same_fault e)
  call_told (a ∷ []) (f ∷ g ∷ _) all e = absurd all.1
  call_told (a ∷ b ∷ _) (f ∷ []) all e = absurd all.1
  call_told (a ∷ b ∷ []) (f ∷ g ∷ []) all e = two_told _ all.0 all.1.0 (of_part (of_argument _ _ first parts.whole))
      (of_part (of_argument _ _ (later a (b ∷ []) first) parts.whole)) (of_second _ a parts.whole) e
  call_told (a ∷ b ∷ []) (f ∷ g ∷ h ∷ _) all e = absurd all.1.1
  call_told (a ∷ b ∷ c ∷ _) (f ∷ g ∷ []) all e = absurd all.1.1
  call_told (a ∷ b ∷ c ∷ _) (f ∷ g ∷ h ∷ _) _ e = not_two _ (λ n. omega (arith, n)) (same_fault e)
  call_told _ _ all _ = absurd all

  -- the argument at which a fault is found
  argument_told : (args : List Told) (before : List Found) {fault : QueryFault}
      → collected before (map (expr_checked columns hidden) (exprs args)) ≡ Err fault
      → (a : Expr) × IsOneOf a (exprs args) × ((k : Kind) → ExprBroken k a fault)
  argument_told [] _ e = no_fault e
  argument_told (a ∷ args) before {fault} e = by_collected before (expr_checked columns hidden a.0) _ e
      (λ is. (a.0, first, a.1 fault is)) (λ x _ e. let m = argument_told args (before ++ x ∷ []) e
      in (m.0, later a.0 (exprs args) m.1, m.2))

  moved : {k : Kind} {e f : Expr} {fault : QueryFault} → f ≡ e → ExprBroken k e fault → ExprBroken k f fault
  moved is h = rw is h

  step : OfExprLayers (expr_step columns hidden) IsTold
  step (expr.Number n _) _ e k = no_fault e
  step (expr.Named x) _ e k = moved (rolls-Named x) (
      by_next _ e (λ is. broken _ (of_name x parts.whole) (slot_told _ _ x is known)) (λ slot is e. no_fault e))
  step (expr.Not span a) fault e k = moved (rolls-Not span a.0) (
      let inside = of_not _ parts.whole in
      by_next _ e (λ is. broken_through inside (a.1 fault is Condition)) (λ x is e.
      by_must _ _ e (λ no same. broken _ (of_part inside) (kind_told _ is same (λ kind. not_both _ no (kind_condition _ kind))))
      (λ yes e. no_fault e)))
  step (expr.Binary op span a b) fault e k = moved (rolls-Binary op span a.0 b.0) (
      let left = of_left _ _ _ _ parts.whole in
      let second = parts.of_right _ _ _ parts.whole in
      by_next _ e (λ is. broken_through left (a.1 fault is (operand_kind op))) (λ x p e.
      by_next _ e (λ is. broken_through second (b.1 fault is (operand_kind op))) (λ y q e.
      two_told _ p q (of_part left) (of_part second) (of_right _ _ parts.whole) e)))
  step (expr.Call op span args) _ e k = moved (rolls-Call op span (exprs args)) (
      by_next _ e (λ is.
      let m = argument_told _ _ is in
      broken_through (of_argument _ _ m.1 parts.whole) (m.2 (operand_kind op))) (λ fs is e.
      let all = collected_each _ _ _ _ is in
      call_told _ _ all.2 (ap (call_of op span) (sym all.1) ∙ e)))

  expr_told : (e : Expr) → IsTold e (expr_checked columns hidden e)
  expr_told = of_expr (expr_step columns hidden) IsTold step

  pub condition_told : {e : Expr} {fault : QueryFault} → condition_of columns hidden e ≡ Err fault → ExprBroken Condition e fault
  condition_told {e} {fault} is = by_next _ is (λ is. expr_told e fault is Condition) (λ x p is.
      by_must _ _ is (λ no same. broken _ (of_part parts.whole) (kind_told _ p same (λ kind. not_both _ no (kind_condition _ kind))))
      (λ yes is. no_fault is))

  pub word_told : {e : Expr} {fault : QueryFault} → word_of columns hidden e ≡ Err fault → ExprBroken Word e fault
  word_told {e} {fault} is = by_next _ is (λ is. expr_told e fault is Word) (λ x p is.
      by_must _ _ is (λ no same. broken _ (of_part parts.whole) (kind_told _ p same (λ kind. not_both _ no (kind_word _ kind))))
      (λ yes is. no_fault is))
