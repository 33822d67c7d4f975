-- Wrapping words are the algebra of sums, and words with an absent element that of maxima.
use Rattle.std.proofs.{Common.{◌≡◌, ℕ, ◌+◌, ◌-◌, ◌%◌, ◌^◌, min, max, refl, ap, arith}, Math.Nat.mul_comm}
use Rattle.query_lang.specs.{declared.fold.Op.{Op, TheVariants.{Mul, Add, Sub, Max, Sadd}}, Words.{IsWord, op_value}}
use Rattle.coeff_algebra.specs.declared.{wrapping.Wrapping64.Wrapping64, max_plus.MaxPlus64.{MaxPlus64, TheVariants.{Absent, Word}}}
use Rattle.coeff_algebra.specs.{Elements.{ElementLaws, IsWordOf}, WrappingModel.IsWrapping, WrappingLaws.wrapping_laws}
use Rattle.coeff_algebra.specs.{MaxPlusModel.IsMaxPlus, MaxPlusLaws.max_plus_laws}
use Rattle.fold_class.specs.{declared.class.Algebra.TheVariants.{Sums, Maxima}, Kinds.{Sum, Difference, Product, role}}
use Rattle.fold_class.specs.{Parts.{minus_one, IsAlgebraOf}, Algebras.{sums, maxima}}

pub sums_laws : ElementLaws IsWrapping sums
sums_laws = wrapping_laws

pub maxima_laws : ElementLaws IsMaxPlus maxima
maxima_laws = max_plus_laws

sums_sum : (op : Op) → role Sums op ≡ Sum → (a b : Wrapping64) → sums.to_word (sums.add a b) ≡ op_value op (sums.to_word a) (sums.to_word b)
unfolding op_value
sums_sum Add e a b = refl
sums_sum _ e a b = cc

sums_difference : (op : Op) → role Sums op ≡ Difference → (a b : Wrapping64) → IsWord (sums.to_word b)
    → sums.to_word (sums.add a (sums.mul (sums.embed minus_one) b)) ≡ op_value op (sums.to_word a) (sums.to_word b)
unfolding op_value
sums_difference Sub e a b h = omega arith
sums_difference _ e a b h = cc

sums_product : (op : Op) → role Sums op ≡ Product → (a b : Wrapping64) → IsWordOf sums a → IsWordOf sums b
    → sums.to_word (sums.mul a b) ≡ op_value op (sums.to_word a) (sums.to_word b)
unfolding op_value
sums_product Mul e a b p q = refl
sums_product _ e a b p q = cc

sums_comm : (op : Op) → role Sums op ≡ Product → (x y : ℕ) → op_value op x y ≡ op_value op y x
unfolding op_value
sums_comm Mul e x y = ap (λ n. n % 2 ^ 64) (mul_comm x y)
sums_comm _ e x y = cc

pub sums_are : IsAlgebraOf Sums sums
sums_are = record { sum_value = sums_sum; difference_value = sums_difference; product_value = sums_product; product_comm = sums_comm }

max_sum : (a b : MaxPlus64) → maxima.to_word (maxima.add a b) ≡ max (maxima.to_word a) (maxima.to_word b)
max_sum Absent Absent = omega arith
max_sum Absent (Word b) = omega arith
max_sum (Word a) Absent = omega arith
max_sum (Word a) (Word b) = refl

maxima_sum : (op : Op) → role Maxima op ≡ Sum → (a b : MaxPlus64) → maxima.to_word (maxima.add a b) ≡ op_value op (maxima.to_word a)
    (maxima.to_word b)
unfolding op_value
maxima_sum Max e a b = max_sum a b
maxima_sum _ e a b = cc

maxima_difference : (op : Op) → role Maxima op ≡ Difference → (a b : MaxPlus64) → IsWord (maxima.to_word b)
    → maxima.to_word (maxima.add a (maxima.mul (maxima.embed minus_one) b)) ≡ op_value op (maxima.to_word a) (maxima.to_word b)
maxima_difference Max e a b h = cc
maxima_difference Sadd e a b h = cc
maxima_difference _ e a b h = cc

max_product : (a b : MaxPlus64) → IsWordOf maxima a → IsWordOf maxima b
    → maxima.to_word (maxima.mul a b) ≡ min (maxima.to_word a + maxima.to_word b) (2 ^ 64 - 1)
max_product Absent b p q = cc
max_product (Word a) Absent p q = cc
max_product (Word a) (Word b) p q = refl

maxima_product : (op : Op) → role Maxima op ≡ Product → (a b : MaxPlus64) → IsWordOf maxima a → IsWordOf maxima b
    → maxima.to_word (maxima.mul a b) ≡ op_value op (maxima.to_word a) (maxima.to_word b)
unfolding op_value
maxima_product Sadd e a b p q = max_product a b p q
maxima_product _ e a b p q = cc

maxima_comm : (op : Op) → role Maxima op ≡ Product → (x y : ℕ) → op_value op x y ≡ op_value op y x
unfolding op_value
maxima_comm Sadd e x y = omega arith
maxima_comm _ e x y = cc

pub maxima_are : IsAlgebraOf Maxima maxima
maxima_are = record {
  sum_value = maxima_sum;
  difference_value = maxima_difference;
  product_value = maxima_product;
  product_comm = maxima_comm;
}
