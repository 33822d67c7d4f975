-- What the check of an expression gives has a rule.
use Rattle.std.proofs.Common.{◌≡◌, ℕ, Bool, true, false, not, cond, List, [], ◌∷◌, ◌++◌, map, Option, Some, None, Ok, refl, sym, ap, subst}
use Rattle.std.proofs.{Common.{◌∙◌, append_assoc, append-nil}, lemmas.Bool.ltb-true}
use Rattle.query_lang.specs.declared.fold.TypedExpr.TheVariants as typed
use Rattle.query_lang.specs.declared.query.Expr.TheOpen as expr
use Rattle.query_lang.specs.declared.query.Expr.TheVariants as whole
use Rattle.query_lang.specs.declared.typing.Sort.TheVariants as sort
use Rattle.query_laws.proofs.Terms.{Span, Op, Div, Rem, Shl, Shr, Decay, Both, Either, TypedExpr, Name, Expr, rolls-Number, rolls-Named}
use Rattle.query_laws.proofs.Terms.{rolls-Not, rolls-Binary, rolls-Call, Found, Sort, Checked, collected, is_among, slot_at, slot_of}
use Rattle.query_laws.proofs.Terms.{is_condition_sort, is_operand, is_number_with, is_right_constant, sort_of, of_two, call_of, expr_step}
use Rattle.query_laws.proofs.Terms.{expr_checked, condition_of, word_of, Kind, Word, Condition, StandsAt, operand_kind, result_kind}
use Rattle.query_laws.proofs.Terms.{IsNumberWith, gives_condition, IsRightOperand, HasKind, of_number, of_name, of_not, of_binary, of_call}
use Rattle.query_laws.proofs.{Steps.{must_ok, same_ok, found_first, place_stands, collected_first, by_test}, Layers.{OfExprLayers, of_expr}}

abbrev pub kind_of : Sort → Kind
kind_of (sort.Number n) = Word
kind_of sort.Word = Word
kind_of sort.Condition = Condition

-- an expression whose sort is a number is that number
abbrev pub IsNumberOf : Sort → Expr → Type 0
IsNumberOf (sort.Number n) e = (span : Span) × (e ≡ whole.Number n span)
IsNumberOf sort.Word e = Unit {0}
IsNumberOf sort.Condition e = Unit {0}

pub record IsTyped (columns : List ℕ) (e : Expr) (found : Found) : Type 0 where
  pub rule : HasKind columns (kind_of found.sort) e found.tree
  pub number : IsNumberOf found.sort e

slot_found : (o : Option ℕ) (b : Bool) (span : Span) {v : ℕ} → slot_at o b span ≡ Ok v → o ≡ Some v
slot_found (Some slot) _ _ e = ap Some (same_ok slot _ e)
slot_found None true _ e = cc e
slot_found None false _ e = cc e

pub slot_stands : (columns hidden : List ℕ) (name : Name) {v : ℕ} → slot_of columns hidden name ≡ Ok v → StandsAt columns v name.id
slot_stands columns hidden name {v} e = place_stands _ _ v (slot_found _ (is_among name.id hidden) _ e)

pub condition_kind : (s : Sort) → is_condition_sort s ≡ true → kind_of s ≡ Condition
condition_kind (sort.Number n) e = cc e
condition_kind sort.Word e = cc e
condition_kind sort.Condition e = refl

pub word_kind : (s : Sort) → not (is_condition_sort s) ≡ true → kind_of s ≡ Word
word_kind (sort.Number n) e = refl
word_kind sort.Word e = refl
word_kind sort.Condition e = cc e

operand : (op : Op) (s : Sort) → is_operand op s ≡ true → kind_of s ≡ operand_kind op
operand Both s e = condition_kind s e
operand Either s e = condition_kind s e
operand _ s e = word_kind s e

pub kind_made : (op : Op) → kind_of (sort_of op) ≡ result_kind op
kind_made op = by_test (gives_condition op) (λ is. rw is) (λ is. rw is)

no_number : (b : Bool) (e : Expr) → IsNumberOf (cond b sort.Condition sort.Word) e
no_number true e = tt
no_number false e = tt

constant : {test : ℕ → Bool} {Q : ℕ → Type 0} (s : Sort) {e : Expr} → ((n : ℕ) → test n ≡ true → Q n) → IsNumberOf s e
    → is_number_with test s ≡ true → IsNumberWith Q e
constant (sort.Number n) tells is h = (n, is.0, is.1, tells n h)
constant sort.Word _ _ h = cc h
constant sort.Condition _ _ h = cc h

right : (op : Op) (s : Sort) (e : Expr) → IsNumberOf s e → is_right_constant op s ≡ true → IsRightOperand op e
right Div s e is h = constant s (λ k c. ltb-true 0 k c) is h
right Rem s e is h = constant s (λ k c. ltb-true 0 k c) is h
right Shl s e is h = constant s (λ k c. ltb-true k 64 c) is h
right Shr s e is h = constant s (λ k c. ltb-true k 64 c) is h
right Decay s e is h = constant s (λ k c. ltb-true k 64 c) is h
right _ s e _ h = tt

-- two operands of a rule
pub record Operands (columns : List ℕ) (op : Op) (a b : Expr) (x y found : Found) : Type 0 where
  pub first : HasKind columns (operand_kind op) a x.tree
  pub second : HasKind columns (operand_kind op) b y.tree
  pub constant : IsRightOperand op b
  pub tree : typed.Binary op x.tree y.tree ≡ found.tree
  pub kind : result_kind op ≡ kind_of found.sort
  pub number : (e : Expr) → IsNumberOf found.sort e

pub two : {columns : List ℕ} {op : Op} (at : Span) {a b : Expr} {x y found : Found} → IsTyped columns a x → IsTyped columns b y
    → of_two op at x y ≡ Ok found → Operands columns op a b x y found
two {columns} _ {a} {b} {x} {y} va vb e =
    let one = must_ok _ _ _ e in
    let two = must_ok _ _ _ one.1 in
    let three = must_ok _ _ _ two.1 in
    let same = same_ok _ _ three.1 in
    record {
      first = subst (λ k. HasKind columns k a x.tree) (operand _ _ one.0) va.rule;
      second = subst (λ k. HasKind columns k b y.tree) (operand _ _ two.0) vb.rule;
      constant = right _ _ b vb.number three.0;
      tree = ap (λ (f : Found). f.tree) same;
      kind = sym (kind_made _) ∙ ap (λ (f : Found). kind_of f.sort) same;
      number = λ e. subst (λ (f : Found). IsNumberOf f.sort e) same (no_number _ e);
    }

-- a rule for the typed form and the kind that were found
ruled : {columns : List ℕ} {k l : Kind} {e f : Expr} {s t : TypedExpr} → k ≡ l → e ≡ f → s ≡ t → HasKind columns k e s
    → HasKind columns l f t
ruled {columns} {l} {e} {f} {s} p q r h =
    subst (λ z. HasKind columns l f z) r (subst (λ z. HasKind columns l z s) q (subst (λ z. HasKind columns z e s) p h))

abbrev IsSound : List ℕ → Expr → Checked Found → Type 0
IsSound columns e c = (found : Found) → c ≡ Ok found → IsTyped columns e found

abbrev Sound : List ℕ → List ℕ → Type 0
Sound columns hidden = (e : Expr) × IsSound columns e (expr_checked columns hidden e)

-- each of some expressions gives what was collected of it
abbrev pub Each : (columns hidden : List ℕ) → List Expr → List Found → Type 0
Each _ _ [] [] = Unit {0}
Each _ _ [] (f ∷ _) = ⊥
Each _ _ (e ∷ _) [] = ⊥
Each columns hidden (e ∷ es) (f ∷ fs) = (expr_checked columns hidden e ≡ Ok f) × Each columns hidden es fs

pub collected_each : (columns hidden : List ℕ) (es : List Expr) (before : List Found) {all : List Found}
    → collected before (map (expr_checked columns hidden) es) ≡ Ok all
    → (rest : List Found) × (all ≡ before ++ rest) × Each columns hidden es rest
collected_each _ _ [] before e = ([], sym (same_ok _ _ e) ∙ sym (append-nil before), tt)
collected_each columns hidden (a ∷ es) before e =
    let first = collected_first before (expr_checked columns hidden a) _ e in
    let more = collected_each columns hidden es (before ++ first.0 ∷ []) first.2 in
    (first.0 ∷ more.0, more.1 ∙ append_assoc before (first.0 ∷ []) more.0, (first.1, more.2))

call : {columns : List ℕ} (hidden : List ℕ) {op : Op} {span : Span} (args : List (Sound columns hidden)) (fs : List Found) {found : Found}
    → Each columns hidden (map (λ a. a.0) args) fs → call_of op span fs ≡ Ok found
    → IsTyped columns (whole.Call op span (map (λ a. a.0) args)) found
call _ _ [] _ e = cc e
call _ _ (f ∷ []) _ e = cc e
call _ _ (f ∷ g ∷ h ∷ _) _ e = cc e
call _ [] (f ∷ g ∷ []) all e = absurd all
call _ (a ∷ []) (f ∷ g ∷ []) all e = absurd all.1
call _ (a ∷ b ∷ c ∷ _) (f ∷ g ∷ []) all e = absurd all.1.1
call _ {span} (a ∷ b ∷ []) (f ∷ g ∷ []) all e =
    let v = two _ (a.1 f all.0) (b.1 g all.1.0) e in
    record { rule = ruled v.kind refl v.tree (of_call span v.first v.second v.constant); number = v.number _ }

moved : {columns : List ℕ} {e f : Expr} {found : Found} → f ≡ e → IsTyped columns e found → IsTyped columns f found
moved {columns} {found} is h = subst (λ z. IsTyped columns z found) (sym is) h

step : {columns : List ℕ} (hidden : List ℕ) → OfExprLayers (expr_step columns hidden) (IsSound columns)
step {columns} _ (expr.Number n span) _ e =
    moved (rolls-Number n span) (subst (λ z. IsTyped columns (whole.Number n span) z) (same_ok _ _ e)
    (record { rule = of_number span; number = (span, refl) }))
step {columns} _ (expr.Named name) _ e =
    let first = found_first _ _ _ e in
    moved (rolls-Named name) (subst (λ z. IsTyped columns (whole.Named name) z) (same_ok _ _ first.2)
    (record { rule = of_name name (slot_stands _ _ _ first.1); number = tt }))
step {columns} _ (expr.Not span a) _ e =
    let first = found_first _ _ _ e in
    let one = must_ok _ _ _ first.2 in
    moved (rolls-Not span a.0) (subst (λ z. IsTyped columns (whole.Not span a.0) z) (same_ok _ _ one.1) (record {
      rule = of_not span (subst (λ k. HasKind columns k a.0 first.0.tree) (condition_kind _ one.0) (a.1 first.0 first.1).rule);
      number = tt;
    }))
step _ (expr.Binary op span a b) _ e =
    let first = found_first _ _ _ e in
    let second = found_first _ _ _ first.2 in
    let v = two _ (a.1 first.0 first.1) (b.1 second.0 second.1) second.2 in
    moved (rolls-Binary op span a.0 b.0) (record {
      rule = ruled v.kind refl v.tree (of_binary span v.first v.second v.constant);
      number = v.number _;
    })
step _ (expr.Call op span args) _ e =
    let first = found_first _ _ _ e in
    let all = collected_each _ _ _ _ first.1 in
    moved (rolls-Call op span (map (λ a. a.0) args)) (call _ _ _ all.2 (ap (call_of op span) (sym all.1) ∙ first.2))

pub expr_sound : {columns : List ℕ} (hidden : List ℕ) (e : Expr) → IsSound columns e (expr_checked columns hidden e)
expr_sound {columns} hidden = of_expr (expr_step columns hidden) (IsSound columns) (step hidden)

pub condition_sound : {columns : List ℕ} (hidden : List ℕ) {e : Expr} {tree : TypedExpr} → condition_of columns hidden e ≡ Ok tree
    → HasKind columns Condition e tree
condition_sound _ {e} is =
    let first = found_first _ _ _ is in
    let test = must_ok _ _ _ first.2 in
    ruled (condition_kind _ test.0) refl (same_ok _ _ test.1) (expr_sound _ e first.0 first.1).rule

pub word_sound : {columns : List ℕ} (hidden : List ℕ) {e : Expr} {tree : TypedExpr} → word_of columns hidden e ≡ Ok tree
    → HasKind columns Word e tree
word_sound _ {e} is =
    let first = found_first _ _ _ is in
    let test = must_ok _ _ _ first.2 in
    ruled (word_kind _ test.0) refl (same_ok _ _ test.1) (expr_sound _ e first.0 first.1).rule
