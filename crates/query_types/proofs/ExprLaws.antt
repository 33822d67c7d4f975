-- What the check of an expression gives is valid.
use Rattle.std.proofs.Common.{◌≡◌, ℕ, ◌+◌, ◌<◌, ◌≤◌, ◌^◌, Bool, true, false, not, cond, List, [], ◌∷◌, ◌++◌, length, map, sum, Option, Some}
use Rattle.std.proofs.Common.{None, Ok, Err, nat_eq, nat_lt, refl, sym, ap, subst, ◌∙◌, append_assoc, append-nil, arith}
use Rattle.std.proofs.lemmas.Bool.{ltb-true}
use Rattle.query_lang.specs.declared.{fault.{FaultKind.FaultKind, QueryFault.QueryFault, Span.Span}, fold.{Op.Op, TypedExpr.TypedExpr}}
use Rattle.query_lang.specs.declared.query.Name.{Name}
use Rattle.query_lang.specs.declared.{typing.{Found.Found, Sort.Sort}, fold.Op.TheVariants.{Div, Rem, Shl, Shr, Decay, Both, Either}}
use Rattle.query_lang.specs.declared.query.Expr.{Expr, fold-roll-Expr, ind-Expr, roll-Expr, map-Expr}
use Rattle.query_lang.specs.{declared.typing.Sort.TheVariants.{Number, Word, Condition}, Terms.{Term, Literal, term_of}}
use Rattle.query_lang.specs.Folds.{IsValidTerm, IsConstant, TakesOperands, is_condition, gives_condition, term_nodes}
use Rattle.query_lang.specs.{Checks.{Checked, and_then, must, collected, is_among, place_from, place_of}, TypedExprs.{slot_at, slot_of}}
use Rattle.query_lang.specs.TypedExprs.{is_condition_sort, is_operand, is_number_with, is_right_constant, of_two, call_of, negation_checked}
use Rattle.query_lang.specs.{TypedExprs.{expr_step, expr_checked, condition_of, word_of}, TypedFolds.{nodes_step, expr_nodes}}
use Rattle.query_lang.proofs.TreeLemmas.{term_number, term_slot, term_not, term_binary}
use Rattle.query_types.specs.Numbers.{greatest_of, number_step, greatest_number}
use Rattle.query_lang.specs.declared.query.Expr.TheOpen as expr

-- a number of the text is that number as a term
abbrev pub IsNumberOf : Sort → Term → Type 0
IsNumberOf (Number n) t = t ≡ Literal n
IsNumberOf Word t = Unit {0}
IsNumberOf Condition t = Unit {0}

-- what is found over that many slots, of that many nodes
pub record IsFound (slots most : ℕ) (found : Found) : Type 0 where
  pub term : IsValidTerm slots (term_of found.tree)
  pub sort : is_condition (term_of found.tree) ≡ is_condition_sort found.sort
  pub number : IsNumberOf found.sort (term_of found.tree)
  pub nodes : term_nodes (term_of found.tree) ≤ most

pub must_ok : {A : Type 0} (test : Bool) (kind : FaultKind) (span : Span) (next : Checked A) (x : A) → must test kind span next ≡ Ok x
    → (test ≡ true) × (next ≡ Ok x)
must_ok true kind span next x e = (refl, e)
must_ok false kind span next x e = cc e

pub same_ok : {A : Type 0} (x y : A) → (let whole : Checked A = Ok x in whole) ≡ Ok y → x ≡ y
same_ok x y e = cc e

-- what holds of what is found, of what is answered
pub from_ok : {A : Type 0} (P : A → Type 0) {x y : A} → (let whole : Checked A = Ok x in whole) ≡ Ok y → P x → P y
from_ok P e h = subst P (same_ok _ _ e) h

pub found_first : {A B : Type 0} (first : Checked A) (next : A → Checked B) (y : B) → and_then first next ≡ Ok y → (x : A) × (first ≡ Ok x)
    × (next x ≡ Ok y)
found_first (Ok x) next y e = (x, refl, e)
found_first (Err fault) next y e = cc e

pub place_bound : (names : List ℕ) (at id v : ℕ) → place_from at names id ≡ Some v → v < at + length names
place_bound [] at id v e = cc e
place_bound (name ∷ rest) at id v e = go (nat_eq name id) (λ k. place_bound rest (at + 1) id v k) e
  where
    go : (b : Bool) → (place_from (at + 1) rest id ≡ Some v → v < (at + 1) + length rest)
        → cond b (Some at) (place_from (at + 1) rest id) ≡ Some v → v < at + length (name ∷ rest)
    go true more e = let same : at ≡ v = cc in omega arith
    go false more e = omega (arith, more e)

pub place_within : (names : List ℕ) (id v : ℕ) → place_of names id ≡ Some v → v < length names
place_within names id v e = let h = place_bound names 0 id v e in omega (arith, h)

-- where a check of a name's place finds one, it is that place
pub found_place : {v : ℕ} {f g : QueryFault} (at : Option ℕ → Bool → Checked ℕ) → ((slot : ℕ) (b : Bool) → at (Some slot) b ≡ Ok slot)
    → at None true ≡ Err f → at None false ≡ Err g → (o : Option ℕ) (b : Bool) → at o b ≡ Ok v → o ≡ Some v
found_place at some _ _ (Some slot) b e = ap Some (same_ok _ _ (sym (some slot b) ∙ e))
found_place at _ f _ None true e = cc (sym f ∙ e)
found_place at _ _ g None false e = cc (sym g ∙ e)

pub slot_place : (columns hidden : List ℕ) (name : Name) {v : ℕ} → slot_of columns hidden name ≡ Ok v → place_of columns name.id ≡ Some v
slot_place columns hidden name e = found_place (λ o b. slot_at o b name.span) (λ slot b. refl) refl refl (place_of columns name.id)
    (is_among name.id hidden) e

pub slot_bound : (columns hidden : List ℕ) (name : Name) (v : ℕ) → slot_of columns hidden name ≡ Ok v → v < length columns
slot_bound columns hidden name v e = place_within columns name.id v (slot_place columns hidden name e)

not_true : (b : Bool) → not b ≡ true → b ≡ false
not_true true e = cc e
not_true false e = refl

constant : (test : ℕ → Bool) (Q : ℕ → Type 0) (sort : Sort) (t : Term) → ((n : ℕ) → test n ≡ true → Q n) → IsNumberOf sort t
    → is_number_with test sort ≡ true → IsConstant Q t
constant test Q (Number n) t tells is h = rw is (tells n h)
constant test Q Word t tells is h = cc h
constant test Q Condition t tells is h = cc h

takes : (op : Op) (slots n m : ℕ) (a b : Found) → IsFound slots n a → IsFound slots m b → is_operand op a.sort ≡ true
    → is_operand op b.sort ≡ true → is_right_constant op b.sort ≡ true
    → TakesOperands op (term_of a.tree) (term_of b.tree)
takes Both slots n m a b va vb ha hb hc = (va.sort ∙ ha, vb.sort ∙ hb)
takes Either slots n m a b va vb ha hb hc = (va.sort ∙ ha, vb.sort ∙ hb)
takes Div slots n m a b va vb ha hb hc = (
  va.sort ∙ not_true _ ha,
  constant (λ k. nat_lt 0 k) (λ k. 0 < k) b.sort (term_of b.tree)
      (λ k e. ltb-true 0 k e) vb.number hc,
)
takes Rem slots n m a b va vb ha hb hc = (
  va.sort ∙ not_true _ ha,
  constant (λ k. nat_lt 0 k) (λ k. 0 < k) b.sort (term_of b.tree)
      (λ k e. ltb-true 0 k e) vb.number hc,
)
takes Shl slots n m a b va vb ha hb hc = (
  va.sort ∙ not_true _ ha,
  constant (λ k. nat_lt k 64) (λ k. k < 64) b.sort (term_of b.tree)
      (λ k e. ltb-true k 64 e) vb.number hc,
)
takes Shr slots n m a b va vb ha hb hc = (
  va.sort ∙ not_true _ ha,
  constant (λ k. nat_lt k 64) (λ k. k < 64) b.sort (term_of b.tree)
      (λ k e. ltb-true k 64 e) vb.number hc,
)
takes Decay slots n m a b va vb ha hb hc = (
  va.sort ∙ not_true _ ha,
  constant (λ k. nat_lt k 64) (λ k. k < 64) b.sort (term_of b.tree)
      (λ k e. ltb-true k 64 e) vb.number hc,
)
takes _ slots n m a b va vb ha hb hc = (va.sort ∙ not_true _ ha, vb.sort ∙ not_true _ hb)

sort_made : (b : Bool) → is_condition_sort (cond b Condition Word) ≡ b
sort_made true = refl
sort_made false = refl

number_made : (b : Bool) (t : Term) → IsNumberOf (cond b Condition Word) t
number_made true t = tt
number_made false t = tt

pub of_two_valid : (op : Op) (at : Span) (slots n m : ℕ) (a b found : Found) → IsFound slots n a → IsFound slots m b
    → of_two op at a b ≡ Ok found → IsFound slots (1 + n + m) found
of_two_valid op at slots n m a b found va vb e =
    let one = must_ok _ _ _ _ _ e in
    let two = must_ok _ _ _ _ _ one.1 in
    let three = must_ok _ _ _ _ _ two.1 in
    let is = term_binary op a.tree b.tree in
    from_ok (IsFound _ _) three.1 (record {
      term = rw is (va.term, vb.term, takes op slots n m a b va vb one.0 two.0 three.0);
      sort = ap is_condition is ∙ sym (sort_made (gives_condition op));
      number = number_made (gives_condition op) _;
      nodes = omega (arith, ap term_nodes is, va.nodes, vb.nodes);
    })

pub negated_valid : (span : Span) (slots n : ℕ) (a found : Found) → IsFound slots n a → negation_checked span a ≡ Ok found
    → IsFound slots (1 + n) found
negated_valid span slots n a found va e =
    let one = must_ok _ _ _ _ _ e in
    let is = term_not a.tree in
    from_ok (IsFound _ _) one.1 (record {
      term = rw is (va.term, va.sort ∙ one.0);
      sort = ap is_condition is;
      number = tt;
      nodes = omega (arith, ap term_nodes is, va.nodes);
    })

-- what is found of each of some expressions, of that many nodes each
abbrev AreFound : ℕ → List ℕ → List Found → Type 0
AreFound slots [] [] = Unit {0}
AreFound slots [] (f ∷ fs) = ⊥
AreFound slots (n ∷ ns) [] = ⊥
AreFound slots (n ∷ ns) (f ∷ fs) = IsFound slots n f × AreFound slots ns fs

call_valid : (op : Op) (span : Span) (slots : ℕ) (ns : List ℕ) (fs : List Found) (found : Found) → AreFound slots ns fs
    → call_of op span fs ≡ Ok found → IsFound slots (1 + sum ns) found
call_valid op span slots [] [] found all e = cc e
call_valid op span slots [] (f ∷ fs) found all e = absurd all
call_valid op span slots (n ∷ ns) [] found all e = absurd all
call_valid op span slots (n ∷ []) (f ∷ []) found all e = cc e
call_valid op span slots (n ∷ []) (f ∷ g ∷ fs) found all e = absurd all.1
call_valid op span slots (n ∷ m ∷ ns) (f ∷ []) found all e = absurd all.1
call_valid op span slots (n ∷ m ∷ []) (f ∷ g ∷ []) found all e =
    let v = of_two_valid op span slots n m f g found all.0 all.1.0 e in
    record { term = v.term; sort = v.sort; number = v.number; nodes = omega (arith, v.nodes) }
call_valid op span slots (n ∷ m ∷ []) (f ∷ g ∷ h ∷ fs) found all e = absurd all.1.1
call_valid op span slots (n ∷ m ∷ k ∷ ns) (f ∷ g ∷ []) found all e = absurd all.1.1
call_valid op span slots (n ∷ m ∷ k ∷ ns) (f ∷ g ∷ h ∷ fs) found all e = cc e

abbrev IsSound : List ℕ → List ℕ → Expr → Type 0
IsSound columns hidden e = (found : Found) → greatest_number e < 2 ^ 64 → expr_checked columns hidden e ≡ Ok found
    → IsFound (length columns) (expr_nodes e) found

abbrev Sound : List ℕ → List ℕ → Type 0
Sound columns hidden = (e : Expr) × IsSound columns hidden e

-- the same of one expression, with what is known of each expression inside
abbrev IsSoundLayer : List ℕ → List ℕ → expr.Expr-F Expr → Type 0
IsSoundLayer columns hidden x = (found : Found) → number_step (map-Expr Expr ℕ greatest_number x) < 2 ^ 64
    → expr_step columns hidden (map-Expr Expr (Checked Found) (expr_checked columns hidden) x) ≡ Ok found
    → IsFound (length columns) (nodes_step (map-Expr Expr ℕ expr_nodes x)) found

of_layer : (columns hidden : List ℕ) (x : expr.Expr-F Expr) → IsSoundLayer columns hidden x → IsSound columns hidden (roll-Expr x)
of_layer columns hidden x layer found h e =
    rw (fold-roll-Expr ℕ nodes_step x) (layer found (rw (← fold-roll-Expr ℕ number_step x) h)
    (sym (fold-roll-Expr (Checked Found) (expr_step columns hidden) x) ∙ e))

collected_valid : (columns hidden : List ℕ) (args : List (Sound columns hidden)) (before all : List Found)
    → greatest_of (map greatest_number (map (λ a. a.0) args)) < 2 ^ 64
    → collected before (map (expr_checked columns hidden) (map (λ a. a.0) args)) ≡ Ok all
    → (rest : List Found) × (all ≡ before ++ rest) × AreFound (length columns) (map expr_nodes (map (λ a. a.0) args)) rest
collected_valid columns hidden [] before all h e = ([], sym (same_ok _ _ e) ∙ sym (append-nil before), tt)
collected_valid columns hidden (a ∷ args) before all h e = go (expr_checked columns hidden a.0) refl
    (λ x k. collected_valid columns hidden args (before ++ x ∷ []) all (omega arith) k) e
  where
    go : (c : Checked Found) → expr_checked columns hidden a.0 ≡ c
        → ((x : Found) → collected (before ++ x ∷ []) (map (expr_checked columns hidden) (map (λ a. a.0) args)) ≡ Ok all
        → (rest : List Found) × (all ≡ (before ++ x ∷ []) ++ rest) × AreFound (length columns) (map expr_nodes (map (λ a. a.0) args)) rest)
        → collected before (c ∷ map (expr_checked columns hidden) (map (λ a. a.0) args)) ≡ Ok all
        → (rest : List Found) × (all ≡ before ++ rest) × AreFound (length columns) (map expr_nodes (map (λ a. a.0) (a ∷ args))) rest
    go (Ok x) is next e =
        let more = next x e in
        (x ∷ more.0, more.1 ∙ append_assoc before (x ∷ []) more.0, (a.1 x (omega arith) is, more.2))
    go (Err fault) is next e = cc e

step : (columns hidden : List ℕ) (y : expr.Expr-F (Sound columns hidden))
    → IsSoundLayer columns hidden (map-Expr (Sound columns hidden) Expr (λ a. a.0) y)
step columns hidden (expr.Number n span) found h e =
    let is = term_number n in
    from_ok (IsFound _ _) e (record {
      term = rw is h;
      sort = ap is_condition is;
      number = is;
      nodes =
          omega (arith, ap term_nodes is);
    })
step columns hidden (expr.Named name) found h e =
    let first = found_first (slot_of columns hidden name) _ _ e in
    let is = term_slot first.0 in
    from_ok (IsFound _ _) first.2 (record {
      term = rw is (slot_bound columns hidden name first.0 first.1);
      sort =
          ap is_condition is;
      number = tt;
      nodes = omega (arith, ap term_nodes is);
    })
step columns hidden (expr.Not span a) found h e =
    let first = found_first _ _ _ e in
    negated_valid span (length columns) (expr_nodes a.0) first.0 found (a.1 first.0 h first.1) first.2
step columns hidden (expr.Binary op span a b) found h e =
    let first = found_first _ _ _ e in
    let second = found_first _ _ _ first.2 in
    of_two_valid op first.0.at (length columns) (expr_nodes a.0) (expr_nodes b.0) first.0 second.0 found (a.1 first.0 (omega arith) first.1)
    (b.1 second.0 (omega arith) second.1) second.2
step columns hidden (expr.Call op span args) found h e =
    let first = found_first _ _ _ e in
    let all = collected_valid columns hidden args [] first.0 h first.1 in
    call_valid op span (length columns) (map expr_nodes (map (λ a. a.0) args)) all.0 found all.2
    (ap (call_of op span) (sym all.1) ∙ first.2)

-- what the check of an expression gives is valid over its columns, and has no more nodes than the text
pub expr_valid : (columns hidden : List ℕ) (e : Expr) → IsSound columns hidden e
expr_valid columns hidden = ind-Expr (IsSound columns hidden) (λ x y is.
    of_layer columns hidden x (rw (← is) (step columns hidden y)))

-- a condition over that many slots, of that many nodes
pub record IsConditionIn (slots most : ℕ) (e : TypedExpr) : Type 0 where
  pub term : IsValidTerm slots (term_of e)
  pub condition : is_condition (term_of e) ≡ true
  pub nodes : term_nodes (term_of e) ≤ most

pub record IsWordIn (slots most : ℕ) (e : TypedExpr) : Type 0 where
  pub term : IsValidTerm slots (term_of e)
  pub word : is_condition (term_of e) ≡ false
  pub nodes : term_nodes (term_of e) ≤ most

pub condition_valid : (columns hidden : List ℕ) (e : Expr) (tree : TypedExpr) → greatest_number e < 2 ^ 64
    → condition_of columns hidden e ≡ Ok tree → IsConditionIn (length columns) (expr_nodes e) tree
condition_valid columns hidden e tree h is =
    let first = found_first _ _ _ is in
    let v = expr_valid columns hidden e first.0 h first.1 in
    let test = must_ok _ _ _ _ _ first.2 in
    from_ok (IsConditionIn _ _) test.1 (record { term = v.term; condition = v.sort ∙ test.0; nodes = v.nodes })

pub word_valid : (columns hidden : List ℕ) (e : Expr) (tree : TypedExpr) → greatest_number e < 2 ^ 64 → word_of columns hidden e ≡ Ok tree
    → IsWordIn (length columns) (expr_nodes e) tree
word_valid columns hidden e tree h is =
    let first = found_first _ _ _ is in
    let v = expr_valid columns hidden e first.0 h first.1 in
    let test = must_ok _ _ _ _ _ first.2 in
    from_ok (IsWordIn _ _) test.1 (record { term = v.term; word = v.sort ∙ not_true _ test.0; nodes = v.nodes })
