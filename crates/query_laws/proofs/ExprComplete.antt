-- What has a rule is what the check of an expression gives.
use Rattle.std.proofs.Common.{◌≡◌, ℕ, ◌<◌, Bool, true, not, List, [], ◌∷◌, map, Ok, nat_lt, refl, sym, ap, ◌∙◌, arith}
use Rattle.query_lang.specs.declared.fold.TypedExpr.TheVariants as typed
use Rattle.query_lang.specs.declared.query.Expr.TheOpen as expr
use Rattle.query_lang.specs.declared.query.Expr.TheVariants as whole
use Rattle.query_lang.specs.declared.typing.Sort.TheVariants as sort
use Rattle.query_laws.proofs.Terms.{Span, Op, Div, Rem, Shl, Shr, Decay, Both, Either, TypedExpr, Name, Expr, rolls-Number, rolls-Named}
use Rattle.query_laws.proofs.Terms.{rolls-Not, rolls-Binary, rolls-Call, Found, Sort, Checked, and_then, collected, is_among, slot_at}
use Rattle.query_laws.proofs.Terms.{is_condition_sort, is_operand, is_number_with, is_right_constant, sort_of, of_two, call_of}
use Rattle.query_laws.proofs.Terms.{negation_checked, expr_step, expr_checked, condition_of, word_of, Kind, Word, Condition, operand_kind}
use Rattle.query_laws.proofs.Terms.{IsNumberWith, IsRightOperand, HasKind, of_number, of_name, of_not, of_binary, of_call}
use Rattle.query_laws.proofs.{Steps.{must_holds, same_ok, then_next, stands_place}, ExprSound.{kind_of, kind_made}, Layers.expr_at}

-- ---- each form of an expression is checked by its step

pub number_is : (columns hidden : List ℕ) {n : ℕ} {span : Span} → expr_checked columns hidden (whole.Number n span) ≡ expr_step columns
    hidden (expr.Number n span)
number_is columns hidden {n} {span} = expr_at (expr_step columns hidden) _ (rolls-Number n span)

pub named_is : (columns hidden : List ℕ) (x : Name) → expr_checked columns hidden (whole.Named x) ≡ expr_step columns hidden (expr.Named x)
named_is columns hidden x = expr_at (expr_step columns hidden) _ (rolls-Named x)

pub not_is : (columns hidden : List ℕ) (span : Span) (e : Expr) → expr_checked columns hidden (whole.Not span e) ≡ and_then
    (expr_checked columns hidden e) (negation_checked span)
not_is columns hidden span e = expr_at (expr_step columns hidden) _ (rolls-Not span e)

pub binary_is : (columns hidden : List ℕ) (op : Op) (span : Span) (a b : Expr)
    → expr_checked columns hidden (whole.Binary op span a b) ≡ and_then (expr_checked columns hidden a)
    (λ x. and_then (expr_checked columns hidden b) (λ y. of_two op x.at x y))
binary_is columns hidden op span a b = expr_at (expr_step columns hidden) _ (rolls-Binary op span a b)

pub call_is : (columns hidden : List ℕ) (op : Op) (span : Span) (es : List Expr)
    → expr_checked columns hidden (whole.Call op span es) ≡ and_then (collected [] (map (expr_checked columns hidden) es)) (call_of op span)
call_is columns hidden op span es = expr_at (expr_step columns hidden) _ (rolls-Call op span es)

-- ---- what the check gives

pub record Gives (columns hidden : List ℕ) (k : Kind) (e : Expr) (t : TypedExpr) : Type 0 where
  pub found : Found
  pub is : expr_checked columns hidden e ≡ Ok found
  pub tree : found.tree ≡ t
  pub kind : kind_of found.sort ≡ k

pub kind_condition : (s : Sort) → kind_of s ≡ Condition → is_condition_sort s ≡ true
kind_condition (sort.Number n) e = cc e
kind_condition sort.Word e = cc e
kind_condition sort.Condition e = refl

pub kind_word : (s : Sort) → kind_of s ≡ Word → not (is_condition_sort s) ≡ true
kind_word (sort.Number n) e = refl
kind_word sort.Word e = refl
kind_word sort.Condition e = cc e

pub operand : (op : Op) (s : Sort) → kind_of s ≡ operand_kind op → is_operand op s ≡ true
operand Both s e = kind_condition s e
operand Either s e = kind_condition s e
operand _ s e = kind_word s e

constant : (columns hidden : List ℕ) {test : ℕ → Bool} {Q : ℕ → Type 0} {e : Expr} {found : Found} → ((n : ℕ) → Q n → test n ≡ true)
    → expr_checked columns hidden e ≡ Ok found → IsNumberWith Q e → is_number_with test found.sort ≡ true
constant columns hidden {test} tells is h =
    let same = same_ok _ _ (sym (number_is _ _) ∙ ap (expr_checked columns hidden) (sym h.2) ∙ is) in
    sym (ap (λ (f : Found). is_number_with test f.sort) same) ∙ tells h.0 h.3

below : {k n : ℕ} → k < n → nat_lt k n ≡ true
below h = grind arith

pub right : (columns hidden : List ℕ) (op : Op) (e : Expr) (found : Found) → expr_checked columns hidden e ≡ Ok found → IsRightOperand op e
    → is_right_constant op found.sort ≡ true
right _ _ Div e _ is h = constant _ _ (λ k c. below c) is h
right _ _ Rem e _ is h = constant _ _ (λ k c. below c) is h
right _ _ Shl e _ is h = constant _ _ (λ k c. below c) is h
right _ _ Shr e _ is h = constant _ _ (λ k c. below c) is h
right _ _ Decay e _ is h = constant _ _ (λ k c. below c) is h
right _ _ _ e _ _ h = refl

abbrev pair : Op → Span → Found → Found → Found
pair op at x y = record { tree = typed.Binary op x.tree y.tree; sort = sort_of op; at = at }

two : {columns hidden : List ℕ} {op : Op} {at : Span} {a b : Expr} {s t : TypedExpr} (x : Gives columns hidden (operand_kind op) a s)
    (y : Gives columns hidden (operand_kind op) b t) → IsRightOperand op b → of_two op at x.found y.found ≡ Ok (pair op at x.found y.found)
two {b} x y c = must_holds _ _ (operand _ _ x.kind) ∙ must_holds _ _ (operand _ _ y.kind)
    ∙ must_holds _ _ (right _ _ _ b _ y.is c)

pair_tree : {op : Op} (at : Span) (x y : Found) {s t : TypedExpr} → x.tree ≡ s → y.tree ≡ t → (pair op at x y).tree ≡ typed.Binary op s t
pair_tree {op} _ x y {s} p q = ap (λ z. typed.Binary op z y.tree) p ∙ ap (typed.Binary op s) q

pub complete : {columns : List ℕ} (hidden : List ℕ) {k : Kind} {e : Expr} {t : TypedExpr} → HasKind columns k e t
    → Gives columns hidden k e t
complete _ (of_number {n} span) = record {
  found = record { tree = typed.Number n; sort = sort.Number n; at = span };
  is = number_is _ _;
  tree = refl;
  kind = refl;
}
complete hidden (of_name x {slot} stands) = record {
  found = record { tree = typed.Slot slot; sort = sort.Word; at = x.span };
  is = named_is _ _ x ∙ then_next _ (ap (λ o. slot_at o (is_among x.id hidden) x.span) (stands_place _ _ stands));
  tree = refl;
  kind = refl;
}
complete _ (of_not span {e} h) =
    let x = complete _ h in
    record {
      found = record { tree = typed.Not x.found.tree; sort = sort.Condition; at = span };
      is = not_is _ _ _ e ∙ then_next _ x.is ∙ must_holds _ _ (kind_condition _ x.kind);
      tree = ap typed.Not x.tree;
      kind = refl;
    }
complete {columns} hidden (of_binary {op} span {a} {b} h i c) =
    let x = complete hidden h in
    let y = complete hidden i in
    record {
      found = pair op x.found.at x.found y.found;
      is = binary_is columns hidden op span a b ∙ then_next _ x.is ∙ then_next _ y.is ∙ two x y c;
      tree = pair_tree x.found.at x.found y.found x.tree y.tree;
      kind = kind_made op;
    }
complete {columns} hidden (of_call {op} span {a} {b} h i c) =
    let x = complete hidden h in
    let y = complete hidden i in
    record {
      found = pair op span x.found y.found;
      is = call_is columns hidden op span (a ∷ b ∷ [])
          ∙ ap (λ r. and_then (collected [] (r ∷ expr_checked columns hidden b ∷ [])) (call_of op span)) x.is
          ∙ ap (λ r. and_then (collected (x.found ∷ []) (r ∷ [])) (call_of op span)) y.is ∙ two x y c;
      tree = pair_tree span x.found y.found x.tree y.tree;
      kind = kind_made op;
    }

pub condition_complete : {columns : List ℕ} (hidden : List ℕ) {e : Expr} {tree : TypedExpr} → HasKind columns Condition e tree
    → condition_of columns hidden e ≡ Ok tree
condition_complete _ h =
    let x = complete _ h in
    then_next _ x.is ∙ must_holds _ _ (kind_condition _ x.kind) ∙ ap (λ t. let r : Checked TypedExpr = Ok t in r) x.tree

pub word_complete : {columns : List ℕ} (hidden : List ℕ) {e : Expr} {tree : TypedExpr} → HasKind columns Word e tree
    → word_of columns hidden e ≡ Ok tree
word_complete _ h =
    let x = complete _ h in
    then_next _ x.is ∙ must_holds _ _ (kind_word _ x.kind) ∙ ap (λ t. let r : Checked TypedExpr = Ok t in r) x.tree
