-- What a check that finds no fault has found on its way.
use Rattle.std.proofs.Common.{◌≡◌, ℕ, ◌+◌, zero, suc, Bool, true, false, cond, List, [], ◌∷◌, Some, Ok, Err, nat_eq, refl, ap, subst, ◌∙◌}
use Rattle.std.proofs.Common.{arith, Option, None, ◌++◌}
use Rattle.query_laws.proofs.Terms.{FaultKind, Span, Checked, and_then, must, must_not, place_from, place_of, StandsAt, collected}

pub must_ok : {A : Type 0} (test : Bool) (kind : FaultKind) (span : Span) {next : Checked A} {x : A} → must test kind span next ≡ Ok x
    → (test ≡ true) × (next ≡ Ok x)
must_ok true _ _ e = (refl, e)
must_ok false _ _ e = cc e

pub must_not_ok : {A : Type 0} (test : Bool) (kind : FaultKind) (span : Span) {next : Checked A} {x : A}
    → must_not test kind span next ≡ Ok x → (test ≡ false) × (next ≡ Ok x)
must_not_ok true _ _ e = cc e
must_not_ok false _ _ e = (refl, e)

pub must_holds : {A : Type 0} {test : Bool} (kind : FaultKind) (span : Span) {next : Checked A} → test ≡ true
    → must test kind span next ≡ next
must_holds kind span {next} e = ap (λ b. must b kind span next) e

pub must_not_holds : {A : Type 0} {test : Bool} (kind : FaultKind) (span : Span) {next : Checked A} → test ≡ false
    → must_not test kind span next ≡ next
must_not_holds kind span {next} e = ap (λ b. must_not b kind span next) e

pub same_ok : {A : Type 0} (x y : A) → (let whole : Checked A = Ok x in whole) ≡ Ok y → x ≡ y
same_ok x y e = cc e

pub found_first : {A B : Type 0} (first : Checked A) (next : A → Checked B) (y : B) → and_then first next ≡ Ok y → (x : A) × (first ≡ Ok x)
    × (next x ≡ Ok y)
found_first (Ok x) _ y e = (x, refl, e)
found_first (Err _) _ y e = cc e

pub then_next : {A B : Type 0} {first : Checked A} (next : A → Checked B) {x : A} → first ≡ Ok x → and_then first next ≡ next x
then_next next e = ap (λ c. and_then c next) e

-- ---- by cases of what a check computes

pub by_test : {P : Type 0} (test : Bool) → (test ≡ true → P) → (test ≡ false → P) → P
by_test true so _ = so refl
by_test false _ not_so = not_so refl

pub by_cond : {A P : Type 0} (test : Bool) {x y z : A} → cond test x y ≡ z → (test ≡ true → x ≡ z → P) → (test ≡ false → y ≡ z → P) → P
by_cond true e so _ = so refl e
by_cond false e _ not_so = not_so refl e

pub by_option : {A P : Type 0} (o : Option A) → (o ≡ None → P) → ((x : A) → o ≡ Some x → P) → P
by_option None none _ = none refl
by_option (Some x) _ some = some x refl

pub collected_first : {A : Type 0} (before : List A) (first : Checked A) (rest : List (Checked A)) {all : List A}
    → collected before (first ∷ rest) ≡ Ok all → (x : A) × (first ≡ Ok x) × (collected (before ++ x ∷ []) rest ≡ Ok all)
collected_first _ (Ok x) _ e = (x, refl, e)
collected_first _ (Err _) _ e = cc e

pub nat_same : {a b : ℕ} → nat_eq a b ≡ true → a ≡ b
nat_same e = grind arith

pub nat_other : {a b : ℕ} → nat_eq a b ≡ false → a ≡ b → ⊥
nat_other e same = grind arith

pub nat_is : {a b : ℕ} → a ≡ b → nat_eq a b ≡ true
nat_is e = grind arith

pub nat_is_not : {a b : ℕ} → (a ≡ b → ⊥) → nat_eq a b ≡ false
nat_is_not {a} {b} e = by_test (nat_eq a b) (λ is. absurd (e (nat_same is))) (λ is. is)

-- a place that is found from a start on is that much further
stands_from : (names : List ℕ) (at id : ℕ) {v : ℕ} → place_from at names id ≡ Some v → (k : ℕ) × (v ≡ at + k) × StandsAt names k id
stands_from [] _ _ e = cc e
stands_from (name ∷ rest) at id {v} e = by_cond (nat_eq name id) e
    (λ is k. let same : at ≡ v = cc k in (0, omega (arith, same), nat_same is))
    (λ is k. let m = stands_from rest (at + 1) id k in (suc m.0, omega (arith, m.1), (nat_other is, m.2)))

found_from : (names : List ℕ) (at id k : ℕ) → StandsAt names k id → place_from at names id ≡ Some (at + k)
found_from [] _ _ k e = absurd e
found_from (_ ∷ rest) at id zero e =
    ap (λ b. cond b (Some at) (place_from (at + 1) rest id)) (nat_is e) ∙ ap Some (let s : at ≡ at + 0 = omega arith in s)
found_from (_ ∷ rest) at id (suc k) e =
    ap (λ b. cond b (Some at) (place_from (at + 1) rest id)) (nat_is_not e.0) ∙ found_from rest (at + 1) id k e.1
    ∙ ap Some (let s : (at + 1) + k ≡ at + suc k = omega arith in s)

pub place_stands : (names : List ℕ) (id v : ℕ) → place_of names id ≡ Some v → StandsAt names v id
place_stands names id v e =
    let m = stands_from _ 0 _ e in
    let same : m.0 ≡ v = omega (arith, m.1) in
    subst (λ k. StandsAt names k id) same m.2

pub stands_place : (names : List ℕ) (id : ℕ) {v : ℕ} → StandsAt names v id → place_of names id ≡ Some v
stands_place _ _ {v} e = found_from _ 0 _ v e ∙ ap Some (let s : 0 + v ≡ v = omega arith in s)
