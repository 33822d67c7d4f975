-- An expression with no state variable in it reads arguments alone.
use Rattle.std.proofs.Common.{◌≡◌, ℕ, ◌+◌, ◌≤◌, Bool, true, false, ◌||◌, cond, List, [], ◌∷◌, ◌++◌, length, map, Option, Some, None, Ok}
use Rattle.std.proofs.Common.{Err, nat_eq, refl, sym, ap, subst, ◌∙◌, append_assoc, append-nil, arith}
use Rattle.query_lang.specs.declared.{fault.{FaultKind.TheVariants.{WrongKind, BadConstant}, Span.Span}, fold.Op.Op, query.Name.Name}
use Rattle.query_lang.specs.{declared.{typing.Found.Found, fold.TypedExpr.TypedExpr}, Terms.term_of, Folds.ReadsArguments}
use Rattle.query_lang.specs.declared.query.Expr.{Expr, fold-roll-Expr, ind-Expr, roll-Expr, map-Expr}
use Rattle.query_lang.specs.{Checks.{Checked, collected, is_among, place_from}, TypedExprs.{is_operand, is_right_constant}}
use Rattle.query_lang.specs.TypedExprs.{is_condition_sort, slot_of, of_two, call_of, expr_step, expr_checked, condition_of}
use Rattle.query_lang.specs.TypedFolds.{or_else, first_of, state_step, state_in}
use Rattle.query_lang.proofs.TreeLemmas.{term_number, term_slot, term_not, term_binary}
use Rattle.query_types.proofs.ExprLaws.{from_ok, must_ok, same_ok, found_first, slot_place}
use Rattle.query_lang.specs.declared.query.Expr.TheOpen as expr

place_past : (states args : List ℕ) (at id v : ℕ) → is_among id states ≡ false → place_from at (states ++ args) id ≡ Some v → at
    + length states ≤ v
place_past [] [] at id v n e = cc e
place_past [] (arg ∷ args) at id v n e = go (nat_eq arg id) (λ k. place_past [] args (at + 1) id v refl k) e
  where
    go : (b : Bool) → (place_from (at + 1) args id ≡ Some v → (at + 1) + 0 ≤ v) → cond b (Some at) (place_from (at + 1) args id) ≡ Some v
        → at + 0 ≤ v
    go true more e = let same : at ≡ v = cc in omega arith
    go false more e = omega (arith, more e)
place_past (state ∷ states) args at id v n e = go (nat_eq state id) (λ h k. place_past states args (at + 1) id v h k) n e
  where
    go : (b : Bool) → (is_among id states ≡ false → place_from (at + 1) (states ++ args) id ≡ Some v → (at + 1) + length states ≤ v)
        → (b || is_among id states) ≡ false → cond b (Some at) (place_from (at + 1) (states ++ args) id) ≡ Some v → at
        + length (state ∷ states) ≤ v
    go true more n e = cc n
    go false more n e = omega (arith, more n e)

slot_past : (states args : List ℕ) (name : Name) (v : ℕ) → cond (is_among name.id states) (Some name.span) None ≡ None
    → slot_of (states ++ args) [] name ≡ Ok v → length states ≤ v
slot_past states args name v n e =
    let h = place_past states args 0 name.id v (none (is_among name.id states) n) (slot_place (states ++ args) [] name e) in
    omega (arith, h)
  where
    none : (b : Bool) → cond b (Some name.span) None ≡ None → b ≡ false
    none true n = cc n
    none false n = refl

neither : (a b : Option Span) → or_else a b ≡ None → (a ≡ None) × (b ≡ None)
neither None b e = (refl, e)
neither (Some span) b e = cc e

abbrev ReadsPast : ℕ → Found → Type 0
ReadsPast states found = ReadsArguments states (term_of found.tree)

two_past : (op : Op) (at : Span) (states : ℕ) (a b found : Found) → ReadsPast states a → ReadsPast states b → of_two op at a b ≡ Ok found
    → ReadsPast states found
two_past op at states a b found ra rb e =
    let one = must_ok (is_operand op a.sort) WrongKind a.at _ found e in
    let two = must_ok (is_operand op b.sort) WrongKind b.at _ found one.1 in
    let three = must_ok (is_right_constant op b.sort) BadConstant b.at _ found two.1 in
    from_ok (ReadsPast states) three.1 (subst (ReadsArguments states) (sym (term_binary op a.tree b.tree)) (ra, rb))

abbrev AllPast : ℕ → List Found → Type 0
AllPast states [] = Unit {0}
AllPast states (f ∷ fs) = ReadsPast states f × AllPast states fs

call_past : (op : Op) (span : Span) (states : ℕ) (fs : List Found) (found : Found) → AllPast states fs → call_of op span fs ≡ Ok found
    → ReadsPast states found
call_past op span states [] found all e = cc e
call_past op span states (f ∷ []) found all e = cc e
call_past op span states (f ∷ g ∷ []) found all e = two_past op span states f g found all.0 all.1.0 e
call_past op span states (f ∷ g ∷ h ∷ fs) found all e = cc e

abbrev IsPast : List ℕ → List ℕ → Expr → Type 0
IsPast states args e = (found : Found) → state_in states e ≡ None → expr_checked (states ++ args) [] e ≡ Ok found
    → ReadsPast (length states) found

abbrev Past : List ℕ → List ℕ → Type 0
Past states args = (e : Expr) × IsPast states args e

abbrev IsPastLayer : List ℕ → List ℕ → expr.Expr-F Expr → Type 0
IsPastLayer states args x = (found : Found) → state_step states (map-Expr Expr (Option Span) (state_in states) x) ≡ None
    → expr_step (states ++ args) [] (map-Expr Expr (Checked Found) (expr_checked (states ++ args) []) x) ≡ Ok found
    → ReadsPast (length states) found

of_layer : (states args : List ℕ) (x : expr.Expr-F Expr) → IsPastLayer states args x → IsPast states args (roll-Expr x)
of_layer states args x layer found h e =
    layer found (sym (fold-roll-Expr (Option Span) (state_step states) x) ∙ h)
    (sym (fold-roll-Expr (Checked Found) (expr_step (states ++ args) []) x) ∙ e)

collected_past : (states args : List ℕ) (es : List (Past states args)) (before all : List Found)
    → first_of (map (state_in states) (map (λ a. a.0) es)) ≡ None → collected before
    (map (expr_checked (states ++ args) []) (map (λ a. a.0) es)) ≡ Ok all
    → (rest : List Found) × (all ≡ before ++ rest) × AllPast (length states) rest
collected_past states args [] before all h e = ([], sym (same_ok _ _ e) ∙ sym (append-nil before), tt)
collected_past states args (a ∷ es) before all h e =
    let none = neither (state_in states a.0) _ h in
    go (expr_checked (states ++ args) [] a.0) refl none.0 (λ x k. collected_past states args es (before ++ x ∷ []) all none.1 k) e
  where
    go : (c : Checked Found) → expr_checked (states ++ args) [] a.0 ≡ c → state_in states a.0 ≡ None
        → ((x : Found) → collected (before ++ x ∷ []) (map (expr_checked (states ++ args) []) (map (λ a. a.0) es)) ≡ Ok all
        → (rest : List Found) × (all ≡ (before ++ x ∷ []) ++ rest) × AllPast (length states) rest)
        → collected before (c ∷ map (expr_checked (states ++ args) []) (map (λ a. a.0) es)) ≡ Ok all
        → (rest : List Found) × (all ≡ before ++ rest) × AllPast (length states) rest
    go (Ok x) is none next e =
        let more = next x e in
        (x ∷ more.0, more.1 ∙ append_assoc before (x ∷ []) more.0, (a.1 x none is, more.2))
    go (Err fault) is none next e = cc e

step : (states args : List ℕ) (y : expr.Expr-F (Past states args)) → IsPastLayer states args (map-Expr (Past states args) Expr (λ a. a.0) y)
step states args (expr.Number n span) found h e =
    from_ok (ReadsPast _) e (rw (term_number n) tt)
step states args (expr.Named name) found h e =
    let first = found_first (slot_of (states ++ args) [] name) _ _ e in
    from_ok (ReadsPast _) first.2 (subst (ReadsArguments _) (sym (term_slot first.0)) (slot_past states args name first.0 h first.1))
step states args (expr.Not span a) found h e =
    let first = found_first _ _ _ e in
    let test = must_ok (is_condition_sort first.0.sort) WrongKind first.0.at _ found first.2 in
    from_ok (ReadsPast _) test.1 (subst (ReadsArguments _) (sym (term_not first.0.tree)) (a.1 first.0 h first.1))
step states args (expr.Binary op span a b) found h e =
    let none = neither (state_in states a.0) (state_in states b.0) h in
    let first = found_first _ _ _ e in
    let second = found_first _ _ _ first.2 in
    two_past op first.0.at (length states) first.0 second.0 found (a.1 first.0 none.0 first.1) (b.1 second.0 none.1 second.1) second.2
step states args (expr.Call op span es) found h e =
    let first = found_first _ _ _ e in
    let all = collected_past states args es [] first.0 h first.1 in
    call_past op span (length states) all.0 found all.2 (ap (call_of op span) (sym all.1) ∙ first.2)

expr_past : (states args : List ℕ) (e : Expr) → IsPast states args e
expr_past states args = ind-Expr (IsPast states args) (λ x y is.
    of_layer states args x (rw (← is) (step states args y)))

pub condition_past : (states args : List ℕ) (e : Expr) (tree : TypedExpr) → state_in states e ≡ None
    → condition_of (states ++ args) [] e ≡ Ok tree → ReadsArguments (length states) (term_of tree)
condition_past states args e tree h is =
    let first = found_first (expr_checked (states ++ args) [] e) _ tree is in
    let test = must_ok (is_condition_sort first.0.sort) WrongKind first.0.at _ tree first.2 in
    from_ok (λ (z : TypedExpr). ReadsArguments (length states) (term_of z)) test.1 (expr_past states args e first.0 h first.1)
