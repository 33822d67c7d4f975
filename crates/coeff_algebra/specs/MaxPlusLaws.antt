-- Words with an absent element form a semiring.
use Rattle.std.proofs.Common.{◌≡◌, length, refl, ap, arith}
use Rattle.coeff_algebra.specs.{Elements.{ElementLaws, StorageLaws, IsWordOf}, declared.max_plus.MaxPlus64.MaxPlus64}
use Rattle.coeff_algebra.specs.declared.max_plus.MaxPlus64.TheVariants.{Absent, Word}
use Rattle.coeff_algebra.specs.MaxPlusModel.{max_plus_add, max_plus_mul, IsMaxPlus, max_plus_elements, max_plus_words, max_plus_from_words}

add_assoc : (x y z : MaxPlus64) → max_plus_add (max_plus_add x y) z ≡ max_plus_add x (max_plus_add y z)
add_assoc Absent y z = refl
add_assoc (Word a) Absent z = refl
add_assoc (Word a) (Word b) Absent = refl
add_assoc (Word a) (Word b) (Word c) = ap Word (omega arith)

add_comm : (x y : MaxPlus64) → max_plus_add x y ≡ max_plus_add y x
add_comm Absent Absent = refl
add_comm Absent (Word b) = refl
add_comm (Word a) Absent = refl
add_comm (Word a) (Word b) = ap Word (omega arith)

mul_assoc : (x y z : MaxPlus64) → max_plus_mul (max_plus_mul x y) z ≡ max_plus_mul x (max_plus_mul y z)
mul_assoc Absent y z = refl
mul_assoc (Word a) Absent z = refl
mul_assoc (Word a) (Word b) Absent = refl
mul_assoc (Word a) (Word b) (Word c) = ap Word (omega arith)

mul_add : (x y z : MaxPlus64) → max_plus_mul x (max_plus_add y z) ≡ max_plus_add (max_plus_mul x y) (max_plus_mul x z)
mul_add Absent y z = refl
mul_add (Word a) Absent z = refl
mul_add (Word a) (Word b) Absent = refl
mul_add (Word a) (Word b) (Word c) = ap Word (omega arith)

add_mul : (x y z : MaxPlus64) → max_plus_mul (max_plus_add x y) z ≡ max_plus_add (max_plus_mul x z) (max_plus_mul y z)
add_mul Absent y z = refl
add_mul (Word a) Absent Absent = refl
add_mul (Word a) Absent (Word c) = refl
add_mul (Word a) (Word b) Absent = refl
add_mul (Word a) (Word b) (Word c) = ap Word (omega arith)

add_is : (x y : MaxPlus64) → IsMaxPlus x → IsMaxPlus y → IsMaxPlus (max_plus_add x y)
add_is Absent y p q = q
add_is (Word a) Absent p q = p
add_is (Word a) (Word b) p q = omega arith

mul_is : (x y : MaxPlus64) → IsMaxPlus x → IsMaxPlus y → IsMaxPlus (max_plus_mul x y)
mul_is Absent y p q = tt
mul_is (Word a) Absent p q = tt
mul_is (Word a) (Word b) p q = omega arith

one_mul : (x : MaxPlus64) → IsMaxPlus x → max_plus_mul (Word 0) x ≡ x
one_mul Absent p = refl
one_mul (Word a) p = ap Word (omega arith)

mul_one : (x : MaxPlus64) → IsMaxPlus x → max_plus_mul x (Word 0) ≡ x
mul_one Absent p = refl
mul_one (Word a) p = ap Word (omega arith)

mul_zero : (x : MaxPlus64) → max_plus_mul x Absent ≡ Absent
mul_zero Absent = refl
mul_zero (Word a) = refl

add_word : (x y : MaxPlus64) → IsWordOf max_plus_elements x → IsWordOf max_plus_elements (max_plus_add x y)
add_word Absent y p = cc
add_word (Word a) Absent p = refl
add_word (Word a) (Word b) p = refl

mul_word : (x y : MaxPlus64) → IsWordOf max_plus_elements x → IsWordOf max_plus_elements y
    → IsWordOf max_plus_elements (max_plus_mul x y)
mul_word Absent y p q = cc
mul_word (Word a) Absent p q = cc
mul_word (Word a) (Word b) p q = refl

pub max_plus_laws : ElementLaws IsMaxPlus max_plus_elements
max_plus_laws = record {
  zero_is = tt;
  one_is = omega arith;
  add_is = add_is;
  mul_is = mul_is;
  add_assoc = add_assoc;
  add_comm = add_comm;
  zero_add = λ x p. refl;
  mul_assoc = mul_assoc;
  one_mul = one_mul;
  mul_one = mul_one;
  mul_add = mul_add;
  add_mul = add_mul;
  zero_mul = λ x. refl;
  mul_zero = mul_zero;
  to_word-embed = λ w. refl;
  embed_is = λ w h. h;
  one_word = refl;
  add_word = add_word;
  mul_word = mul_word;
}

length_words : (x : MaxPlus64) → length (max_plus_words x) ≡ 2
length_words Absent = refl
length_words (Word a) = refl

load_store : (x : MaxPlus64) → max_plus_from_words (max_plus_words x) ≡ x
load_store Absent = refl
load_store (Word a) = refl

pub max_plus_storage : StorageLaws max_plus_words max_plus_from_words 2
max_plus_storage = record { size_low = omega arith; size_high = omega arith; length_words = length_words; load_store = load_store }
