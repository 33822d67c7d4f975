-- Words modulo 2^64 form a semiring.
use Rattle.std.proofs.{Common.{◌≡◌, ℕ, ◌+◌, ◌*◌, ◌%◌, ◌^◌, refl, ap, sym, ◌∙◌, arith}, lemmas.Nat.mul-mod_first}
use Rattle.std.proofs.Math.Nat.{mul_comm, mul_assoc, mul-add, add-mul}
use Rattle.coeff_algebra.specs.Elements.{ElementLaws, StorageLaws}
use Rattle.coeff_algebra.specs.WrappingModel.{wrapping_embed, IsWrapping, wrapping_elements, wrapping_words, wrapping_from_words}

pub wrapping_laws : ElementLaws IsWrapping wrapping_elements
wrapping_laws = record {
  zero_is = omega arith;
  one_is = omega arith;
  add_is = λ x y p q. omega arith;
  mul_is = λ x y p q. omega arith;
  add_assoc = λ x y z. ap wrapping_embed (sums x.word y.word z.word);
  add_comm = λ x y. ap wrapping_embed (ap (λ n. n % 2 ^ 64) (omega arith));
  zero_add = λ x p. ap wrapping_embed (omega arith);
  mul_assoc = λ x y z. ap wrapping_embed (products x.word y.word z.word);
  one_mul = λ x p. ap wrapping_embed (omega arith);
  mul_one = λ x p. ap wrapping_embed (omega arith);
  mul_add = λ x y z. ap wrapping_embed (left x.word y.word z.word);
  add_mul = λ x y z. ap wrapping_embed (right x.word y.word z.word);
  zero_mul = λ x. ap wrapping_embed (omega arith);
  mul_zero = λ x. ap wrapping_embed (omega arith);
  to_word-embed = λ w. refl;
  embed_is = λ w h. h;
  one_word = refl;
  add_word = λ x y h. refl;
  mul_word = λ x y p q. refl;
}
  where
    sums : (x y z : ℕ) → ((x + y) % 2 ^ 64 + z) % 2 ^ 64 ≡ (x + (y + z) % 2 ^ 64) % 2 ^ 64
    sums x y z = omega arith

    second : (a b : ℕ) → (a * (b % 2 ^ 64)) % 2 ^ 64 ≡ (a * b) % 2 ^ 64
    second a b = ap (λ n. n % 2 ^ 64) (mul_comm a (b % 2 ^ 64)) ∙ mul-mod_first b a (2 ^ 64) ∙ ap (λ n. n % 2 ^ 64) (mul_comm b a)

    products : (x y z : ℕ) → ((x * y) % 2 ^ 64 * z) % 2 ^ 64 ≡ (x * ((y * z) % 2 ^ 64)) % 2 ^ 64
    products x y z = mul-mod_first (x * y) z (2 ^ 64) ∙ ap (λ n. n % 2 ^ 64) (mul_assoc x y z) ∙ sym (second x (y * z))

    both : (a b : ℕ) → (a + b) % 2 ^ 64 ≡ (a % 2 ^ 64 + b % 2 ^ 64) % 2 ^ 64
    both a b = omega arith

    left : (x y z : ℕ) → (x * ((y + z) % 2 ^ 64)) % 2 ^ 64 ≡ ((x * y) % 2 ^ 64 + (x * z) % 2 ^ 64) % 2 ^ 64
    left x y z = second x (y + z) ∙ ap (λ n. n % 2 ^ 64) (mul-add x y z) ∙ both (x * y) (x * z)

    right : (x y z : ℕ) → ((x + y) % 2 ^ 64 * z) % 2 ^ 64 ≡ ((x * z) % 2 ^ 64 + (y * z) % 2 ^ 64) % 2 ^ 64
    right x y z = mul-mod_first (x + y) z (2 ^ 64) ∙ ap (λ n. n % 2 ^ 64) (add-mul x y z) ∙ both (x * z) (y * z)

pub wrapping_storage : StorageLaws wrapping_words wrapping_from_words 1
wrapping_storage = record { size_low = omega arith; size_high = omega arith; length_words = λ x. refl; load_store = λ x. refl }
