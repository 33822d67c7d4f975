-- What operators make of ordered operands.
use Rattle.std.proofs.Common.{◌≡◌, ℕ, zero, suc, ◌+◌, ◌-◌, ◌*◌, ◌/◌, ◌^◌, ◌<◌, ◌≤◌, Bool, true, false, if◌then◌else◌, refl, ap, arith}
use Rattle.std.proofs.{Math.Nat.{div-zero, div-le_self, div-mul-le_self, add-div_left}, lemmas.Nat.{le-div, pow_pos}}
use Rattle.query_lang.specs.{declared.fold.Op.{Op, TheVariants.{Div, Shr, Max, Min, Sadd, Decay}}, Words.op_value}
use Rattle.query_lang.specs.{Terms.{Term, Literal, Read, Negation, Operation}, Folds.TakesOperands}
use Rattle.fold_class.specs.declared.class.{Kind.{Kind, TheVariants.{Pure as Free}}, Role.TheVariants.{Sum, Difference, Product}}
use Rattle.fold_class.specs.Kinds.{expr_kind}
use Rattle.enclosure_folds.specs.Kinds.{role}

-- a quotient rises with what is divided
div_order : (x y d : ℕ) → x ≤ y → x / d ≤ y / d
div_order x y zero h = omega (arith, div-zero x, div-zero y)
div_order x y (suc d) h =
    let low : x / suc d * suc d ≤ y = omega (arith, h, div-mul-le_self x (suc d)) in
    le-div _ y _ (omega arith) low

-- it rises at most as much as what is divided
div_grows : (x d k : ℕ) → 0 < d → (x + k) / d ≤ x / d + k
div_grows x d zero h = let e : x + 0 ≡ x = omega arith in omega (arith, ap (λ z. z / d) e)
div_grows x d (suc k) h =
    let more : (x + suc k) / d ≤ (d + (x + k)) / d = div_order _ _ d (omega (arith, h)) in
    omega (arith, more, add-div_left (x + k) h, div_grows x d k h)

-- so a number less its quotient rises too
rest_order : (x y d : ℕ) → 0 < d → x ≤ y → x - x / d ≤ y - y / d
rest_order x y d h le =
    let e : x + (y - x) ≡ y = omega arith in
    omega (arith, ap (λ z. z / d) e, div_grows x d (y - x) h, div-le_self x d, div-le_self y d)

decay_order : (b : Bool) (x y s : ℕ) → x ≤ y → (if b then x - x / 2 ^ s else x) ≤ (if b then y - y / 2 ^ s else y)
decay_order true x y s h = rest_order x y _ (pow_pos s) h
decay_order false x y s h = h

shr_order : (b : Bool) (x y s : ℕ) → x ≤ y → (if b then x / 2 ^ s else 0) ≤ (if b then y / 2 ^ s else 0)
shr_order true x y s h = div_order x y _ h
shr_order false x y s h = omega arith

quotient_order : (b : Bool) (x y d : ℕ) → x ≤ y → (if b then 0 else x / d) ≤ (if b then 0 else y / d)
quotient_order true x y d h = omega arith
quotient_order false x y d h = div_order x y d h

pub sum_order : (op : Op) (x y u v : ℕ) → role op ≡ Sum → x ≤ y → u ≤ v → op_value op x u ≤ op_value op y v
unfolding op_value
sum_order Max x y u v e p q = omega arith
sum_order Min x y u v e p q = omega arith
sum_order Sadd x y u v e p q = omega arith
sum_order _ x y u v e p q = cc

pub product_order : (op : Op) (x y u : ℕ) → role op ≡ Product → x ≤ y → op_value op x u ≤ op_value op y u
unfolding op_value
product_order Decay x y u e p = decay_order _ x y u p
product_order Shr x y u e p = shr_order _ x y u p
product_order Div x y u e p = quotient_order _ x y u p
product_order _ x y u e p = cc

pub no_difference : (op : Op) → role op ≡ Difference → ⊥
no_difference Max e = cc
no_difference _ e = cc

-- the right operand of a product is a number
pub number_free : (op : Op) (a b : Term) (kinds : ℕ → Kind) → role op ≡ Product → TakesOperands op a b → expr_kind role b kinds ≡ Free
number_free Decay a (Literal n) kinds e t = refl
number_free Decay a (Read s) kinds e t = absurd t.1
number_free Decay a (Negation b) kinds e t = absurd t.1
number_free Decay a (Operation op b c) kinds e t = absurd t.1
number_free Shr a (Literal n) kinds e t = refl
number_free Shr a (Read s) kinds e t = absurd t.1
number_free Shr a (Negation b) kinds e t = absurd t.1
number_free Shr a (Operation op b c) kinds e t = absurd t.1
number_free Div a (Literal n) kinds e t = refl
number_free Div a (Read s) kinds e t = absurd t.1
number_free Div a (Negation b) kinds e t = absurd t.1
number_free Div a (Operation op b c) kinds e t = absurd t.1
number_free _ a b kinds e t = cc
