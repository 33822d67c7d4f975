-- What rows of shares give at the words of the linear variables.
use Rattle.std.proofs.Common.{◌≡◌, ◌≢◌, ℕ, ◌<◌, ◌≤◌, Bool, true, false, ◌==◌, nat_lt, if◌then◌else◌, refl, sym, ap, ◌∙◌, subst, arith}
use Rattle.std.proofs.lemmas.Bool.Decides.{nat_tests}
use Rattle.query_lang.specs.{declared.fold.Op.Op, Words.{IsWord, op_value}}
use Rattle.coeff_algebra.specs.{Elements.{Elements, ElementLaws, IsWordOf}, Maps.{sum_below, HasWord}}
use Rattle.coeff_algebra.proofs.MapLemmas.{sum_same, sum_nothing, sum_add, mul_sum, exchange, word_add, sum_word}
use Rattle.fold_class.specs.{declared.class.Algebra.Algebra, Kinds.{Role, Sum, Difference, Product, Outside, role}}
use Rattle.fold_class.specs.Parts.{Part, Fixed, Share, Lost, minus_one, part_operation, row_shares, row_value, StandsFor, IsAlgebraOf}

module _ {C : Type 0} {is_element : C → Type 0} {k : Elements C} (laws : ElementLaws is_element k) (n : ℕ) (x : ℕ → ℕ) where
  -- a row's element, before it is read as a word
  abbrev total : (ℕ → C) → C
  total row = k.add (sum_below k n (λ j. k.mul (row j) (k.embed (x j)))) (row n)

  total-sum : (d e : ℕ → C) → total (λ c. k.add (d c) (e c)) ≡ k.add (total d) (total e)
  total-sum d e =
      let s = laws in
      let S = sum_below k n in
      let D = λ (j : ℕ). k.mul (d j) (k.embed (x j)) in
      let E = λ (j : ℕ). k.mul (e j) (k.embed (x j)) in
      ap (λ z. k.add z (k.add (d n) (e n)))
      (sum_same s n (λ j. k.mul (k.add (d j) (e j)) (k.embed (x j))) (λ j. k.add (D j) (E j)) (λ j h. s.add_mul (d j) (e j) (k.embed (x j)))
      ∙ sum_add s n D E) ∙ exchange s (S D) (S E) (d n) (e n)

  total-scale : (w : ℕ) (e : ℕ → C) → total (λ c. k.mul (k.embed w) (e c)) ≡ k.mul (k.embed w) (total e)
  total-scale w e =
      let s = laws in
      let S = sum_below k n in
      let E = λ (j : ℕ). k.mul (e j) (k.embed (x j)) in
      ap (λ z. k.add z (k.mul (k.embed w) (e n)))
      (sum_same s n (λ j. k.mul (k.mul (k.embed w) (e j)) (k.embed (x j))) (λ j. k.mul (k.embed w) (E j))
      (λ j h. s.mul_assoc (k.embed w) (e j) (k.embed (x j))) ∙ sym (mul_sum s n (k.embed w) E)) ∙ sym (s.mul_add (k.embed w) (S E) (e n))

  lift_at : (w c : ℕ) → c ≢ n → (if c == n then k.embed w else k.zero) ≡ k.zero
  lift_at w c h = let off : (c == n) ≡ false = grind (arith, nat_tests) in ap (λ b. if b then k.embed w else k.zero) off

  lift_last : (w : ℕ) → (if n == n then k.embed w else k.zero) ≡ k.embed w
  lift_last w = let on : (n == n) ≡ true = grind (arith, nat_tests) in ap (λ b. if b then k.embed w else k.zero) on

  total-lift : (w : ℕ) → IsWord w → total (λ c. if c == n then k.embed w else k.zero) ≡ k.embed w
  total-lift w h =
      let s = laws in
      ap (λ z. k.add z (if n == n then k.embed w else k.zero))
      (sum_same s n (λ j. k.mul (if j == n then k.embed w else k.zero) (k.embed (x j))) (λ j. k.zero)
      (λ j lt. let off : j ≢ n = omega arith in ap (λ z. k.mul z (k.embed (x j))) (lift_at w j off) ∙ s.zero_mul (k.embed (x j)))
      ∙ sum_nothing s n) ∙ ap (k.add k.zero) (lift_last w) ∙ s.zero_add (k.embed w) (laws.embed_is w h)

  embed_word : (w : ℕ) → IsWordOf k (k.embed w)
  embed_word w = ap k.embed (laws.to_word-embed w)

  pub lift_has : (w : ℕ) → HasWord k n (λ c. if c == n then k.embed w else k.zero)
  lift_has w = (n, omega arith, subst (IsWordOf k) (sym (lift_last w)) (embed_word w))

  sum_has : (d e : ℕ → C) → HasWord k n d → HasWord k n (λ c. k.add (d c) (e c))
  sum_has d e h = (h.0, h.1, laws.add_word (d h.0) (e h.0) h.2)

  scale_has : (w : ℕ) (e : ℕ → C) → HasWord k n e → HasWord k n (λ c. k.mul (k.embed w) (e c))
  scale_has w e h = (h.0, h.1, laws.mul_word (k.embed w) (e h.0) (embed_word w) h.2)

  -- a row with a word in it gives a word
  total_word : (e : ℕ → C) → HasWord k n e → IsWordOf k (total e)
  total_word e h = at (nat_lt h.0 n) refl
    where
      at : (b : Bool) → nat_lt h.0 n ≡ b → IsWordOf k (total e)
      at true t =
          let lt : h.0 < n = grind (arith, nat_tests) in
          laws.add_word (sum_below k n (λ j. k.mul (e j) (k.embed (x j)))) (e n)
          (sum_word laws n (λ j. k.mul (e j) (k.embed (x j))) h.0 lt (laws.mul_word (e h.0) (k.embed (x h.0)) h.2 (embed_word (x h.0))))
      at false t =
          let most : h.0 ≤ n = h.1 in
          let same : h.0 ≡ n = grind (arith, nat_tests) in
          word_add laws (sum_below k n (λ j. k.mul (e j) (k.embed (x j)))) (e n) (subst (λ m. IsWordOf k (e m)) same h.2)

  module _ (algebra : Algebra) (alg : IsAlgebraOf algebra k) (op : Op) where
    sum_stands : (d e : ℕ → C) (v w : ℕ) → role algebra op ≡ Sum → row_value k n x d ≡ v → row_value k n x e ≡ w
        → row_value k n x (λ c. k.add (d c) (e c)) ≡ op_value op v w
    sum_stands d e v w r ed ee =
        ap k.to_word (total-sum d e) ∙ alg.sum_value op r (total d) (total e) ∙ ap (λ z. op_value op z (k.to_word (total e))) ed
        ∙ ap (op_value op v) ee

    difference_stands : (d e : ℕ → C) (v w : ℕ) → role algebra op ≡ Difference → IsWord w → row_value k n x d ≡ v → row_value k n x e ≡ w →
        row_value k n x (λ c. k.add (d c) (k.mul (k.embed minus_one) (e c))) ≡ op_value op v w
    difference_stands d e v w r hw ed ee =
        ap k.to_word (total-sum d (λ c. k.mul (k.embed minus_one) (e c)) ∙ ap (k.add (total d)) (total-scale minus_one e))
        ∙ alg.difference_value op r (total d) (total e) (subst IsWord (sym ee) hw) ∙ ap (λ z. op_value op z (k.to_word (total e))) ed
        ∙ ap (op_value op v) ee

    product_stands : (u : ℕ) (e : ℕ → C) (w : ℕ) → role algebra op ≡ Product → HasWord k n e → row_value k n x e ≡ w
        → row_value k n x (λ c. k.mul (k.embed u) (e c)) ≡ op_value op u w
    product_stands u e w r h ee =
        ap k.to_word (total-scale u e) ∙ alg.product_value op r (k.embed u) (total e) (embed_word u) (total_word e h)
        ∙ ap (λ z. op_value op z (k.to_word (total e))) (laws.to_word-embed u) ∙ ap (op_value op u) ee

    pub lift_stands : (u v : ℕ) → IsWord v → u ≡ v → row_value k n x (λ c. if c == n then k.embed u else k.zero) ≡ v
    lift_stands u v hv e = ap k.to_word (total-lift u (subst IsWord (sym e) hv)) ∙ laws.to_word-embed u ∙ e

    -- an operator on two parts represents the operator on their words
    pub operation_stands : (r : Role) → role algebra op ≡ r → (a b : Part (ℕ → C)) (v w : ℕ) → IsWord v → IsWord w → StandsFor k n x a v
        → StandsFor k n x b w → StandsFor k n x (part_operation (row_shares k n) r (op_value op) a b) (op_value op v w)
    operation_stands r er (Fixed u) (Fixed t) v w hv hw p q = ap (λ z. op_value op z t) p ∙ ap (op_value op v) q
    operation_stands Sum er (Fixed u) (Share e) v w hv hw p q = (
      sum_stands (λ c. if c == n then k.embed u else k.zero) e v w er (lift_stands u v hv p) q.0,
      sum_has (λ c. if c == n then k.embed u else k.zero) e (lift_has u),
    )
    operation_stands Sum er (Share d) (Fixed t) v w hv hw p q = (
      sum_stands d (λ c. if c == n then k.embed t else k.zero) v w er p.0 (lift_stands t w hw q),
      sum_has d (λ c. if c == n then k.embed t else k.zero) p.1,
    )
    operation_stands Sum er (Share d) (Share e) v w hv hw p q = (sum_stands d e v w er p.0 q.0, sum_has d e p.1)
    operation_stands Difference er (Fixed u) (Share e) v w hv hw p q = (
      difference_stands (λ c. if c == n then k.embed u else k.zero) e v w er hw (lift_stands u v hv p) q.0,
      sum_has (λ c. if c == n then k.embed u else k.zero) (λ c. k.mul (k.embed minus_one) (e c)) (lift_has u),
    )
    operation_stands Difference er (Share d) (Fixed t) v w hv hw p q = (
      difference_stands d (λ c. if c == n then k.embed t else k.zero) v w er hw p.0 (lift_stands t w hw q),
      sum_has d (λ c. k.mul (k.embed minus_one) (if c == n then k.embed t else k.zero)) p.1,
    )
    operation_stands Difference er (Share d) (Share e) v w hv hw p q =
        (difference_stands d e v w er hw p.0 q.0, sum_has d (λ c. k.mul (k.embed minus_one) (e c)) p.1)
    operation_stands Product er (Fixed u) (Share e) v w hv hw p q = (
      product_stands u e w er q.1 q.0 ∙ ap (λ z. op_value op z w) p,
      scale_has u e q.1,
    )
    operation_stands Product er (Share d) (Fixed t) v w hv hw p q = (
      product_stands t d v er p.1 p.0 ∙ alg.product_comm op er t v ∙ ap (op_value op v) q,
      scale_has t d p.1,
    )
    operation_stands Product er (Share d) (Share e) v w hv hw p q = tt
    operation_stands Outside er (Fixed u) (Share e) v w hv hw p q = tt
    operation_stands Outside er (Share d) (Fixed t) v w hv hw p q = tt
    operation_stands Outside er (Share d) (Share e) v w hv hw p q = tt
    operation_stands r er (Fixed u) Lost v w hv hw p q = tt
    operation_stands r er (Share d) Lost v w hv hw p q = tt
    operation_stands r er Lost b v w hv hw p q = tt
