-- What is asked of an expression, of new columns, of keys and of arguments is so where they are typed.
use Rattle.std.proofs.Common.{◌≡◌, ℕ, ◌<◌, ◌≤◌, List, [], ◌∷◌, ◌++◌, length, map, Ok, refl, sym, ap, subst, ◌∙◌, append_assoc, append-nil}
use Rattle.std.proofs.{Common.arith, lemmas.List.{length-append, length-map}}
use Rattle.query_lang.specs.declared.query.Expr.TheVariants as whole
use Rattle.query_laws.proofs.Terms.{WrongKind, Span, Op, TypedExpr, Column, Expr, Name, FoldView, Found, Known, and_then, collected}
use Rattle.query_laws.proofs.Terms.{slot_of, is_condition_sort, of_two, call_of, negation_checked, expr_checked, IsOneOf, HasPart, Demand}
use Rattle.query_laws.proofs.Terms.{Holds, Kind, Word, Condition, StandsAt, operand_kind, IsRightOperand, HasKind, IsNew, AreNew}
use Rattle.query_laws.proofs.Terms.{HasTypedColumns, new_names, HasSlots, HasKeys, HasArguments}
use Rattle.query_laws.specs.Asked.{ExprAsks, of_part, of_name, of_call, of_right, of_second, ColumnsAsk, of_value, KeysAsk, of_key, of_new}
use Rattle.query_laws.specs.Asked.{of_limit, ArgumentsAsk, of_argument, of_states, ids_of}
use Rattle.query_laws.specs.Asked as asks
use Rattle.query_laws.specs.Demands as parts
use Rattle.query_laws.proofs.ExprComplete.{complete, named_is, not_is, binary_is, call_is}
use Rattle.query_laws.proofs.ExprSound.{slot_stands, condition_kind, Operands, two, Each, collected_each, expr_sound}
use Rattle.query_laws.proofs.Steps.{must_ok, found_first}

-- ---- expressions

-- this of each of some expressions
abbrev pub EachIs : (Expr → Type 0) → List Expr → Type 0
EachIs P [] = Unit {0}
EachIs P (e ∷ es) = P e × EachIs P es

pub one_is : (P : Expr → Type 0) {a : Expr} {es : List Expr} → IsOneOf a es → EachIs P es → P a
one_is P parts.first h = h.0
one_is P (parts.later _ _ i) h = one_is P i h.1

abbrev HasForm : List ℕ → Kind → Expr → Type 0
HasForm columns k e = (t : TypedExpr) × HasKind columns k e t

-- what a rule for an operator or a function needs
record Both (columns : List ℕ) (op : Op) (a b : Expr) : Type 0 where
  pub first : HasForm columns (operand_kind op) a
  pub second : HasForm columns (operand_kind op) b
  pub constant : IsRightOperand op b

both_of : {columns : List ℕ} {op : Op} {a b : Expr} {x y found : Found} → Operands columns op a b x y found → Both columns op a b
both_of {x} {y} h = record { first = (x.tree, h.first); second = (y.tree, h.second); constant = h.constant }

of_not : {columns : List ℕ} {k : Kind} {span : Span} {e : Expr} {t : TypedExpr} → HasKind columns k (whole.Not span e) t
    → HasForm columns Condition e
of_not {columns} {span} {e} h =
    let g = complete [] h in
    let first = found_first (expr_checked columns [] e) (negation_checked span) g.found (sym (not_is columns [] span e) ∙ g.is) in
    let one = must_ok (is_condition_sort first.0.sort) WrongKind first.0.at first.2 in
    (first.0.tree, subst (λ z. HasKind columns z e first.0.tree) (condition_kind first.0.sort one.0) (expr_sound [] e first.0 first.1).rule)

of_binary : {columns : List ℕ} {k : Kind} {op : Op} {span : Span} {a b : Expr} {t : TypedExpr}
    → HasKind columns k (whole.Binary op span a b) t → Both columns op a b
of_binary {columns} {op} {span} {a} {b} h =
    let g = complete [] h in
    let first = found_first (expr_checked columns [] a) (λ x. and_then (expr_checked columns [] b) (λ y. of_two op x.at x y)) g.found
    (sym (binary_is columns [] op span a b) ∙ g.is) in
    let second = found_first (expr_checked columns [] b) (λ y. of_two op first.0.at first.0 y) g.found first.2 in
    both_of (
    two first.0.at (expr_sound [] a first.0 first.1) (expr_sound [] b second.0 second.1) second.2)

-- the arguments of a function
record Pair (columns : List ℕ) (op : Op) (es : List Expr) : Type 0 where
  pub a : Expr
  pub b : Expr
  pub are : es ≡ a ∷ b ∷ []
  pub both : Both columns op a b

pair_of : {columns : List ℕ} {op : Op} (span : Span) (es : List Expr) (fs : List Found) {found : Found} → Each columns [] es fs
    → call_of op span fs ≡ Ok found → Pair columns op es
pair_of _ _ [] _ e = cc e
pair_of _ _ (f ∷ []) _ e = cc e
pair_of _ _ (f ∷ g ∷ h ∷ _) _ e = cc e
pair_of _ [] (f ∷ g ∷ []) all e = absurd all
pair_of _ (a ∷ []) (f ∷ g ∷ []) all e = absurd all.1
pair_of _ (a ∷ b ∷ c ∷ _) (f ∷ g ∷ []) all e = absurd all.1.1
pair_of span (a ∷ b ∷ []) (f ∷ g ∷ []) all e = record {
  a = a;
  b = b;
  are = refl;
  both = both_of (two span (expr_sound [] a f all.0) (expr_sound [] b g all.1.0) e);
}

of_function : {columns : List ℕ} {k : Kind} {op : Op} {span : Span} {es : List Expr} {t : TypedExpr}
    → HasKind columns k (whole.Call op span es) t → Pair columns op es
of_function {columns} {op} {span} {es} h =
    let g = complete [] h in
    let first = found_first (collected [] (map (expr_checked columns []) es)) (call_of op span) g.found
    (sym (call_is columns [] op span es) ∙ g.is) in
    let all = collected_each columns [] es [] first.1 in
    pair_of span es all.0 all.2 (ap (call_of op span) (sym all.1) ∙ first.2)

same_second : {a b x y : Expr} → (a ∷ b ∷ []) ≡ (x ∷ y ∷ []) → y ≡ b
same_second e = sym (cc e)

-- each part of a typed expression is typed
part_typed : {columns : List ℕ} {k : Kind} {e : Expr} {l : Kind} {part : Expr} → HasForm columns k e → HasPart k e l part
    → HasForm columns l part
part_typed h parts.whole = h
part_typed h (parts.of_not _ p) = part_typed (of_not h.1) p
part_typed h (parts.of_left _ _ a b p) = part_typed (of_binary h.1).first p
part_typed h (parts.of_right _ _ a p) = part_typed (of_binary h.1).second p
part_typed {columns} h (parts.of_argument op _ i p) =
    let c = of_function h.1 in
    part_typed (one_is _ i (subst (λ z. EachIs (HasForm columns (operand_kind op)) z) (sym c.are) (c.both.first, (c.both.second, tt)))) p

named_stands : {columns : List ℕ} {k : Kind} {x : Name} → HasForm columns k (whole.Named x) → (slot : ℕ) × StandsAt columns slot x.id
named_stands {columns} {x} h =
    let g = complete [] h.1 in
    let slot = found_first (slot_of columns [] x) _ g.found (sym (named_is columns [] x) ∙ g.is) in
    (slot.0, slot_stands columns [] x slot.1)

pub expr_meets : (known : List Known) {columns hidden : List ℕ} {k : Kind} {e : Expr} {d : Demand} → HasForm columns k e
    → ExprAsks columns hidden k e d → Holds known d
expr_meets _ h (of_part p) = part_typed h p
expr_meets _ h (of_name x p) = named_stands (part_typed h p)
expr_meets _ h (of_call _ p) =
    let c = part_typed h p in
    ap length (of_function c.1).are
expr_meets _ h (of_right _ a p) =
    let c = part_typed h p in (of_binary c.1).constant
expr_meets _ h (of_second {op} _ a p) =
    let c = part_typed h p in
    let m = of_function c.1 in
    subst (λ z. IsRightOperand op z) (same_second m.are) m.both.constant

-- ---- names that are new

pub new_at : (before front : List ℕ) (id : ℕ) (back : List ℕ) → AreNew before (front ++ id ∷ back) → IsNew id (before ++ front)
new_at before [] id _ h = subst (λ z. IsNew id z) (sym (append-nil before)) h.0
new_at before (x ∷ front) id back h =
    subst (λ z. IsNew id z) (append_assoc before (x ∷ []) front) (new_at (before ++ x ∷ []) front id back h.1)

pub ids_split : (front : List Name) (x : Name) (back : List Name) → ids_of (front ++ x ∷ back) ≡ ids_of front ++ x.id ∷ ids_of back
ids_split [] x _ = refl
ids_split (y ∷ front) x back = ap (λ z. y.id ∷ z) (ids_split front x back)

pub names_new : (before : List ℕ) {all : List Name} (front : List Name) (x : Name) (back : List Name) → all ≡ front ++ x ∷ back
    → AreNew before (ids_of all) → IsNew x.id (before ++ ids_of front)
names_new before _ x _ split h = new_at _ _ _ _ (subst (λ z. AreNew before z) (ap ids_of split ∙ ids_split _ x _) h)

pub few_before : {A : Type 0} {all : List A} (front : List A) (x : A) (back : List A) {n : ℕ} → all ≡ front ++ x ∷ back → length all ≤ n
    → length front < n
few_before front x back split few = let long = ap length split ∙ length-append front (x ∷ back) in omega (arith, long, few)

-- ---- new columns

abbrev AtColumn : List ℕ → List ℕ → Column → Type 0
AtColumn columns taken c = IsNew c.name.id taken × HasForm columns Word c.value

column_at : {columns : List ℕ} (taken : List ℕ) (front : List Column) (c : Column) (back : List Column) (values : List TypedExpr)
    → HasTypedColumns columns taken (front ++ c ∷ back) values → AtColumn columns (taken ++ new_names front) c
column_at {columns} taken [] c _ (v ∷ _) h = subst (λ z. AtColumn columns z c) (sym (append-nil taken)) (h.0, (v, h.1))
column_at {columns} taken (x ∷ front) c back (v ∷ values) h =
    subst (λ z. AtColumn columns z c) (append_assoc taken (x.name.id ∷ []) (new_names front))
    (column_at (taken ++ x.name.id ∷ []) front c back values h.2)
column_at _ _ _ _ _ h = absurd h

pub columns_meet : (known : List Known) {columns hidden : List ℕ} {new : List Column} (values : List TypedExpr) {d : Demand}
    → HasTypedColumns columns (columns ++ hidden) new values → ColumnsAsk columns hidden new d → Holds known d
columns_meet _ {columns} {hidden} values h (asks.of_name front c _ split) =
    subst (λ z. IsNew c.name.id z) (append_assoc columns hidden (new_names front))
    (column_at _ _ c _ _ (subst (λ z. HasTypedColumns columns (columns ++ hidden) z values) split h)).0
columns_meet _ {columns} {hidden} values h (of_value _ c _ split asked) =
    expr_meets _ (column_at _ _ c _ _ (subst (λ z. HasTypedColumns columns (columns ++ hidden) z values) split h)).1 asked

-- ---- keys and arguments

slot_at : (columns front : List ℕ) (id : ℕ) (back slots : List ℕ) → HasSlots columns (front ++ id ∷ back) slots → (slot : ℕ)
    × StandsAt columns slot id
slot_at _ [] _ _ (slot ∷ _) h = (slot, h.0)
slot_at columns (x ∷ front) id back (_ ∷ slots) h = slot_at columns front id back slots h.1
slot_at _ _ _ _ _ h = absurd h

pub keys_meet : (known : List Known) {columns hidden : List ℕ} {keys : List Name} {slots : List ℕ} {d : Demand}
    → HasKeys columns (ids_of keys) slots → KeysAsk columns hidden keys d → Holds known d
keys_meet _ {columns} {slots} h (of_key _ _ _ split) =
    slot_at _ _ _ _ _ (subst (λ z. HasSlots columns z slots) (ap ids_of split ∙ ids_split _ _ _) h.places)
keys_meet _ h (of_new _ _ _ split) = names_new _ _ _ _ split h.distinct
keys_meet _ {keys} h (of_limit _ _ _ split) =
    let long = length-map keys (λ (n : Name). n.id) in
    few_before _ _ _ split (omega (arith, h.few, long))

pub arguments_meet : (known : List Known) {columns hidden keys : List ℕ} {f : FoldView} {span : Span} {slots : List ℕ} {d : Demand}
    → HasArguments columns keys f slots → ArgumentsAsk columns hidden keys f span d → Holds known d
arguments_meet _ {columns} {slots} h (of_argument _ _ _ split) = slot_at _ _ _ _ _ (subst (λ z. HasSlots columns z slots) split h.places)
arguments_meet _ h of_states = h.apart
