-- The names of a fold, and which expressions read a state variable.
use Rattle.std.proofs.Common.{◌≡◌, ℕ, zero, suc, ◌+◌, ◌<◌, ◌≤◌, Bool, true, false, ◌||◌, cond, List, [], ◌∷◌, ◌++◌, length, map, Option}
use Rattle.std.proofs.Common.{Some, None, Ok, nat_eq, nat_lt, refl, sym, ap, subst, ◌∙◌, append_assoc, append-nil, arith}
use Rattle.std.proofs.lemmas.{Bool.{ltb-true, or_parts}, List.length-append}
use Rattle.query_lang.specs.declared.fold.TypedExpr.TheVariants as typed
use Rattle.query_lang.specs.declared.query.Expr.TheVariants as whole
use Rattle.query_lang.proofs.TreeLemmas.{term_number, term_slot, term_not, term_binary}
use Rattle.query_laws.proofs.Terms.{Span, Op, TypedExpr, Name, StateVar, Expr, rolls-Number, rolls-Named, rolls-Not, rolls-Binary}
use Rattle.query_laws.proofs.Terms.{rolls-Call, Term, term_of, ReadsArguments, Checked, is_among, states_from, args_from, or_else}
use Rattle.query_laws.proofs.Terms.{state_step, state_in, MAX_ARGS, MAX_STATES, Kind, StandsAt, HasKind, of_number, of_name, of_not}
use Rattle.query_laws.proofs.Terms.{of_binary, of_call, IsNew, AreNew}
use Rattle.query_laws.proofs.Steps.{must_ok, must_not_ok, must_holds, must_not_holds, same_ok, nat_other, nat_is, nat_is_not, by_test}
use Rattle.query_laws.proofs.Layers.{expr_at}

-- ---- new names

pub new_among : (id : ℕ) (names : List ℕ) → IsNew id names → is_among id names ≡ false
new_among _ [] h = refl
new_among id (_ ∷ rest) h = ap (λ b. b || is_among id rest) (nat_is_not h.0) ∙ new_among id rest h.1

pub among_new : (id : ℕ) (names : List ℕ) → is_among id names ≡ false → IsNew id names
among_new _ [] e = tt
among_new id (name ∷ rest) e = let parts = or_parts (nat_eq name id) _ e in (nat_other parts.0, among_new id rest parts.1)

pub among_append : (id : ℕ) (xs ys : List ℕ) → is_among id (xs ++ ys) ≡ (is_among id xs || is_among id ys)
among_append _ [] _ = refl
among_append id (x ∷ xs) ys = by_test (nat_eq x id) (λ is. rw is) (λ is. rw is (among_append id xs ys))

pub below : {k n : ℕ} → k < n → nat_lt k n ≡ true
below h = grind arith

abbrev pub ids : List StateVar → List ℕ
ids ss = map (λ s. s.name.id) ss

pub states_sound : (ss : List StateVar) (found : List ℕ) {all : List ℕ} → length found ≤ MAX_STATES → states_from found ss ≡ Ok all
    → (all ≡ found ++ ids ss) × AreNew found (ids ss) × (length found + length ss ≤ MAX_STATES)
states_sound [] found h e = (sym (same_ok _ _ e) ∙ sym (append-nil found), tt, omega (arith, h))
states_sound (s ∷ ss) found h e =
    let one = must_not_ok _ _ _ e in
    let two = must_ok _ _ _ one.1 in
    let few = ltb-true (length found) MAX_STATES two.0 in
    let long = length-append found (s.name.id ∷ []) in
    let more = states_sound ss (found ++ s.name.id ∷ []) (omega (arith, long, few)) two.1 in
    (more.0 ∙ append_assoc found (s.name.id ∷ []) (ids ss), (among_new s.name.id found one.0, more.1), omega (arith, long, more.2))

pub states_complete : (ss : List StateVar) (found : List ℕ) → AreNew found (ids ss) → length found + length ss ≤ MAX_STATES
    → states_from found ss ≡ Ok (found ++ ids ss)
states_complete [] found h _ = ap (λ z. let r : Checked (List ℕ) = Ok z in r) (sym (append-nil found))
states_complete (s ∷ ss) found h few =
    must_not_holds _ _ (new_among s.name.id found h.0) ∙ must_holds _ _ (below {k = length found} {n = MAX_STATES} (omega (arith, few)))
    ∙ states_complete ss (found ++ s.name.id ∷ []) h.1 (omega (arith, few, length-append found (s.name.id ∷ [])))
    ∙ ap (λ z. let r : Checked (List ℕ) = Ok z in r) (append_assoc found (s.name.id ∷ []) (ids ss))

abbrev arg_ids : List Name → List ℕ
arg_ids more = map (λ a. a.id) more

pub args_sound : (states : List ℕ) (more : List Name) (found : List ℕ) {all : List ℕ} → length found ≤ MAX_ARGS
    → args_from states found more ≡ Ok all
    → (all ≡ found ++ arg_ids more) × AreNew (states ++ found) (arg_ids more) × (length found + length more ≤ MAX_ARGS)
args_sound _ [] found h e = (sym (same_ok _ _ e) ∙ sym (append-nil found), tt, omega (arith, h))
args_sound states (a ∷ more) found h e =
    let one = must_not_ok _ _ _ e in
    let two = must_ok _ _ _ one.1 in
    let few = ltb-true (length found) MAX_ARGS two.0 in
    let long = length-append found (a.id ∷ []) in
    let found_rest = args_sound states more (found ++ a.id ∷ []) (omega (arith, long, few)) two.1 in (
      found_rest.0 ∙ append_assoc found (a.id ∷ []) (arg_ids more),
      (
        among_new a.id (states ++ found) (among_append a.id states found ∙ one.0),
        subst (λ z. AreNew z (arg_ids more)) (sym (append_assoc states found (a.id ∷ []))) found_rest.1,
      ),
      omega (arith, long, found_rest.2),
    )

pub args_complete : (states : List ℕ) (more : List Name) (found : List ℕ) → AreNew (states ++ found) (arg_ids more) → length found
    + length more ≤ MAX_ARGS → args_from states found more ≡ Ok (found ++ arg_ids more)
args_complete _ [] found h _ = ap (λ z. let r : Checked (List ℕ) = Ok z in r) (sym (append-nil found))
args_complete states (a ∷ more) found h few =
    must_not_holds _ _ (sym (among_append a.id states found) ∙ new_among a.id (states ++ found) h.0)
    ∙ must_holds _ _ (below {k = length found} {n = MAX_ARGS} (omega (arith, few)))
    ∙ args_complete states more (found ++ a.id ∷ []) (subst (λ z. AreNew z (arg_ids more)) (append_assoc states found (a.id ∷ [])) h.1)
    (omega (arith, few, length-append found (a.id ∷ [])))
    ∙ ap (λ z. let r : Checked (List ℕ) = Ok z in r) (append_assoc found (a.id ∷ []) (arg_ids more))

-- ---- expressions on the arguments alone

pub neither : (a : Option Span) {b : Option Span} → or_else a b ≡ None → (a ≡ None) × (b ≡ None)
neither None e = (refl, e)
neither (Some _) e = cc e

pub both_none : {a b : Option Span} → a ≡ None → b ≡ None → or_else a b ≡ None
both_none {b} p q = ap (λ o. or_else o b) p ∙ q

stands_past : (states args : List ℕ) (slot id : ℕ) → StandsAt (states ++ args) slot id → (is_among id states ≡ false → length states ≤ slot)
    × (length states ≤ slot → is_among id states ≡ false)
stands_past [] _ _ _ e = (λ h. omega arith, λ h. refl)
stands_past (s ∷ states) _ zero id e =
    let is : is_among id (s ∷ states) ≡ true = ap (λ b. b || is_among id states) (nat_is e) in
    (λ h. cc (is, h), λ h. absurd (omega (arith, h)))
stands_past (s ∷ states) args (suc slot) id e =
    let is : is_among id (s ∷ states) ≡ is_among id states = ap (λ b. b || is_among id states) (nat_is_not e.0) in
    let m = stands_past states args slot id e.1 in
    (λ h. let k = m.0 (sym is ∙ h) in omega (arith, k), λ h. is ∙ m.1 (omega (arith, h)))

in_number : (states : List ℕ) (n : ℕ) (span : Span) → state_in states (whole.Number n span) ≡ None
in_number states n span = expr_at (state_step states) _ (rolls-Number n span)

pub in_named : (states : List ℕ) (x : Name) → state_in states (whole.Named x) ≡ cond (is_among x.id states) (Some x.span) None
in_named states x = expr_at (state_step states) _ (rolls-Named x)

pub in_not : (states : List ℕ) (span : Span) (e : Expr) → state_in states (whole.Not span e) ≡ state_in states e
in_not states span e = expr_at (state_step states) _ (rolls-Not span e)

pub in_binary : (states : List ℕ) (op : Op) (span : Span) (a b : Expr)
    → state_in states (whole.Binary op span a b) ≡ or_else (state_in states a) (state_in states b)
in_binary states op span a b = expr_at (state_step states) _ (rolls-Binary op span a b)

in_call : (states : List ℕ) (op : Op) (span : Span) (a b : Expr)
    → state_in states (whole.Call op span (a ∷ b ∷ [])) ≡ or_else (state_in states a) (state_in states b)
in_call states op span a b = expr_at (state_step states) _ (rolls-Call op span (a ∷ b ∷ [])) ∙ ap (or_else (state_in states a)) (last _)
  where
    last : (o : Option Span) → or_else o None ≡ o
    last None = refl
    last (Some span) = refl

-- no state variable is in the expression exactly where its typed form reads none
pub record Reads (states : List ℕ) (e : Expr) (t : TypedExpr) : Type 0 where
  pub past : state_in states e ≡ None → ReadsArguments (length states) (term_of t)
  pub none : ReadsArguments (length states) (term_of t) → state_in states e ≡ None

turned : (n : ℕ) {s t : Term} → s ≡ t → ReadsArguments n s → ReadsArguments n t
turned n e h = subst (λ z. ReadsArguments n z) e h

pub no_span : (b : Bool) (span : Span) → cond b (Some span) None ≡ None → b ≡ false
no_span true _ e = cc e
no_span false _ e = refl

reads_both : {states : List ℕ} {op : Op} {e a b : Expr} {s t : TypedExpr} → state_in states e ≡ or_else (state_in states a)
    (state_in states b) → Reads states a s → Reads states b t → Reads states e (typed.Binary op s t)
reads_both {op = op} {s = s} {t} is m n = record {
  past = λ k. let p = neither _ (sym is ∙ k) in turned _ (sym (term_binary op s t)) (m.past p.0, n.past p.1);
  none = λ k. let p = turned _ (term_binary op s t) k in is ∙ both_none (m.none p.0) (n.none p.1);
}

pub reads : {states : List ℕ} (args : List ℕ) {k : Kind} {e : Expr} {t : TypedExpr} → HasKind (states ++ args) k e t → Reads states e t
reads _ (of_number {n} _) = record { past = λ h. turned _ (sym (term_number n)) tt; none = λ h. in_number _ n _ }
reads _ (of_name x {slot} stands) =
    let m = stands_past _ _ _ _ stands in
    record {
      past = λ h. turned _ (sym (term_slot slot)) (m.0 (no_span _ _ (sym (in_named _ x) ∙ h)));
      none = λ h. in_named _ x ∙ ap (λ b. cond b (Some x.span) None) (m.1 (turned _ (term_slot slot) h));
    }
reads _ (of_not _ {e} {t} h) =
    let m = reads _ h in
    record {
      past = λ k. turned _ (sym (term_not t)) (m.past (sym (in_not _ _ e) ∙ k));
      none = λ k. in_not _ _ e ∙ m.none (turned _ (term_not t) k);
    }
reads _ (of_binary _ {a} {b} h i c) = reads_both (in_binary _ _ _ a b) (reads _ h) (reads _ i)
reads _ (of_call _ {a} {b} h i c) = reads_both (in_call _ _ _ a b) (reads _ h) (reads _ i)
