-- Sums of elements, and what the composition of two maps does.
use Rattle.std.proofs.Common.{◌≡◌, ℕ, zero, suc, ◌<◌, ◌≤◌, Bool, true, false, ◌==◌, nat_lt, if◌then◌else◌, refl, sym, ap, ◌∙◌, subst, arith}
use Rattle.std.proofs.lemmas.Bool.Decides.{nat_tests}
use Rattle.coeff_algebra.specs.{Elements.{Elements, ElementLaws, IsWordOf}, Maps.{sum_below, map_apply, map_compose, HasWord}}

module _ {C : Type 0} {is_element : C → Type 0} {k : Elements C} (s : ElementLaws is_element k) where
  abbrev o : C
  o = k.zero

  abbrev add : C → C → C
  add = k.add

  abbrev mul : C → C → C
  mul = k.mul

  pub nothing_twice : add o o ≡ o
  nothing_twice = s.zero_add o s.zero_is

  pub exchange : (a b c d : C) → add (add a b) (add c d) ≡ add (add a c) (add b d)
  exchange a b c d =
      s.add_assoc a b (add c d)
      ∙ ap (add a) (sym (s.add_assoc b c d) ∙ ap (λ z. add z d) (s.add_comm b c) ∙ s.add_assoc c b d)
      ∙ sym (s.add_assoc a c (add b d))

  pub sum_nothing : (n : ℕ) → sum_below k n (λ i. o) ≡ o
  sum_nothing zero = refl
  sum_nothing (suc n) = ap (λ z. add z o) (sum_nothing n) ∙ nothing_twice

  pub sum_same : (n : ℕ) (f g : ℕ → C) → ((i : ℕ) → i < n → f i ≡ g i) → sum_below k n f ≡ sum_below k n g
  sum_same zero f g h = refl
  sum_same (suc n) f g h = ap (λ z. add z (f n)) (sum_same n f g (λ i lt. h i (omega arith)))
      ∙ ap (add (sum_below k n g)) (h n (omega arith))

  pub sum_add : (n : ℕ) (f g : ℕ → C) → sum_below k n (λ i. add (f i) (g i)) ≡ add (sum_below k n f) (sum_below k n g)
  sum_add zero f g = sym nothing_twice
  sum_add (suc n) f g = ap (λ z. add z (add (f n) (g n))) (sum_add n f g) ∙ exchange (sum_below k n f) (sum_below k n g) (f n) (g n)

  pub mul_sum : (n : ℕ) (x : C) (f : ℕ → C) → mul x (sum_below k n f) ≡ sum_below k n (λ i. mul x (f i))
  mul_sum zero x f = s.mul_zero x
  mul_sum (suc n) x f = s.mul_add x (sum_below k n f) (f n) ∙ ap (λ z. add z (mul x (f n))) (mul_sum n x f)

  pub sum_mul : (n : ℕ) (f : ℕ → C) (x : C) → mul (sum_below k n f) x ≡ sum_below k n (λ i. mul (f i) x)
  sum_mul zero f x = s.zero_mul x
  sum_mul (suc n) f x = s.add_mul (sum_below k n f) (f n) x ∙ ap (λ z. add z (mul (f n) x)) (sum_mul n f x)

  pub sum_swap : (n m : ℕ) (f : ℕ → ℕ → C) → sum_below k n (λ i. sum_below k m (f i)) ≡ sum_below k m (λ j. sum_below k n (λ i. f i j))
  sum_swap zero m f = sym (sum_nothing m)
  sum_swap (suc n) m f =
      ap (λ z. add z (sum_below k m (f n))) (sum_swap n m f)
      ∙ sym (sum_add m (λ j. sum_below k n (λ i. f i j)) (f n))

  compose_front : (n : ℕ) (later earlier : ℕ → ℕ → C) (i j : ℕ) → j < n
      → map_compose k n later earlier i j ≡ sum_below k n (λ l. mul (later i l) (earlier l j))
  compose_front n later earlier i j h =
      let products = sum_below k n (λ l. mul (later i l) (earlier l j)) in
      let off : (j == n) ≡ false = grind (arith, nat_tests) in
      ap (λ b. if b then add products (later i n) else products) off

  compose_last : (n : ℕ) (later earlier : ℕ → ℕ → C) (i : ℕ) → map_compose k n later earlier i n ≡ add
      (sum_below k n (λ l. mul (later i l) (earlier l n))) (later i n)
  compose_last n later earlier i =
      let products = sum_below k n (λ l. mul (later i l) (earlier l n)) in
      let on : (n == n) ≡ true = grind (arith, nat_tests) in
      ap (λ b. if b then add products (later i n) else products) on

  -- the composed map does what `earlier` and then `later` do
  pub apply_compose : (n : ℕ) (later earlier : ℕ → ℕ → C) (x : ℕ → C) (i : ℕ) →
      map_apply k n (map_compose k n later earlier) x i ≡ map_apply k n later (map_apply k n earlier x) i
  apply_compose n later earlier x i =
      let S = sum_below k n in
      let constants = S (λ l. mul (later i l) (earlier l n)) in
      let inner = λ (l : ℕ). S (λ j. mul (earlier l j) (x j)) in
      let spread : S (λ j. mul (map_compose k n later earlier i j) (x j)) ≡ S (λ j. S (λ l. mul (mul (later i l) (earlier l j)) (x j))) =
      sum_same n (λ j. mul (map_compose k n later earlier i j) (x j)) (λ j. S (λ l. mul (mul (later i l) (earlier l j)) (x j)))
      (λ j h. ap (λ z. mul z (x j)) (compose_front n later earlier i j h) ∙ sum_mul n (λ l. mul (later i l) (earlier l j)) (x j)) in
      let regroup : S (λ l. S (λ j. mul (mul (later i l) (earlier l j)) (x j))) ≡ S (λ l. mul (later i l) (inner l)) =
      sum_same n (λ l. S (λ j. mul (mul (later i l) (earlier l j)) (x j))) (λ l. mul (later i l) (inner l))
      (λ l h. sum_same n (λ j. mul (mul (later i l) (earlier l j)) (x j)) (λ j. mul (later i l) (mul (earlier l j) (x j)))
      (λ j hj. s.mul_assoc (later i l) (earlier l j) (x j))
      ∙ sym (mul_sum n (later i l) (λ j. mul (earlier l j) (x j)))) in
      let gather : S (λ l. mul (later i l) (add (inner l) (earlier l n))) ≡ add (S (λ l. mul (later i l) (inner l))) constants =
      sum_same n (λ l. mul (later i l) (add (inner l) (earlier l n))) (λ l. add (mul (later i l) (inner l)) (mul (later i l) (earlier l n)))
      (λ l h. s.mul_add (later i l) (inner l) (earlier l n))
      ∙ sum_add n (λ l. mul (later i l) (inner l)) (λ l. mul (later i l) (earlier l n)) in
      ap (λ z. add z (map_compose k n later earlier i n)) (spread ∙ sum_swap n n (λ j l. mul (mul (later i l) (earlier l j)) (x j))
      ∙ regroup)
      ∙ ap (add (S (λ l. mul (later i l) (inner l)))) (compose_last n later earlier i)
      ∙ sym (s.add_assoc (S (λ l. mul (later i l) (inner l))) constants (later i n))
      ∙ ap (λ z. add z (later i n)) (sym gather)

  pub word_add : (x y : C) → IsWordOf k y → IsWordOf k (k.add x y)
  word_add x y h = subst (IsWordOf k) (s.add_comm y x) (s.add_word y x h)

  -- a sum with a word among what it adds is a word
  pub sum_word : (n : ℕ) (f : ℕ → C) (i : ℕ) → i < n → IsWordOf k (f i) → IsWordOf k (sum_below k n f)
  sum_word zero f i h w = absurd (omega arith)
  sum_word (suc n) f i h w = at (λ lt. sum_word n f i lt w) (nat_lt i n) refl
    where
      at : (i < n → IsWordOf k (sum_below k n f)) → (b : Bool) → nat_lt i n ≡ b → IsWordOf k (k.add (sum_below k n f) (f n))
      at front true t = s.add_word (sum_below k n f) (f n) (front (grind (arith, nat_tests)))
      at front false t = let same : i ≡ n = grind (arith, nat_tests) in word_add (sum_below k n f) (f n)
          (subst (λ m. IsWordOf k (f m)) same w)

  -- a row with a word, times rows with words, is a row with a word
  pub compose_has : (n : ℕ) (later earlier : ℕ → ℕ → C) (i : ℕ) → HasWord k n (later i) → ((l : ℕ) → l < n → HasWord k n (earlier l))
      → HasWord k n (map_compose k n later earlier i)
  compose_has n later earlier i h rows = place (nat_lt h.0 n) refl
    where
      inner : (j : ℕ) (b : Bool) (p : C) → IsWordOf k p → IsWordOf k (if b then add p (later i n) else p)
      inner j true p w = s.add_word p (later i n) w
      inner j false p w = w

      place : (b : Bool) → nat_lt h.0 n ≡ b → HasWord k n (map_compose k n later earlier i)
      place true t =
          let lt : h.0 < n = grind (arith, nat_tests) in
          let r = rows h.0 lt in (
            r.0,
            r.1,
            inner r.0 (r.0 == n) (sum_below k n (λ l. mul (later i l) (earlier l r.0)))
                (sum_word n (λ l. mul (later i l) (earlier l r.0)) h.0 lt (s.mul_word (later i h.0) (earlier h.0 r.0) h.2 r.2)),
          )
      place false t =
          let most : h.0 ≤ n = h.1 in
          let same : h.0 ≡ n = grind (arith, nat_tests) in
          let last : IsWordOf k (later i n) = subst (λ j. IsWordOf k (later i j)) same h.2 in
          let products = sum_below k n (λ l. mul (later i l) (earlier l n)) in
          (n, omega arith, subst (IsWordOf k) (sym (compose_last n later earlier i)) (word_add products (later i n) last))
