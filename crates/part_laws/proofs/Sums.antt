-- Sums over packets, part by part.
use Rattle.part_laws.proofs.Words.{◌≡◌, ℕ, ◌+◌, true, false, ◌==◌, List, [], ◌∷◌, flat_map, refl, sym, ap, ◌∙◌, subst, arith, sum_by}
use Rattle.part_laws.proofs.Words.{true≢false, false≢true, All-head, All-tail, sum_by-cons, sum_by-append, by_test, AreApart, has_number}
use Rattle.part_laws.proofs.Words.{same_number, not_number, own_number, Partition, part_at}
use Rattle.std.proofs.Common.{All}

pub zeros_sum : {X : Type 0} (xs : List X) → sum_by (λ x. 0) xs ≡ 0
zeros_sum [] = refl
zeros_sum (x ∷ xs) = sum_by-cons _ x xs ∙ (ap (λ n. 0 + n) (zeros_sum xs) ∙ none)
  where
    none : 0 + 0 ≡ 0
    none = refl

pub same_sums : {X : Type 0} (f h : X → ℕ) (xs : List X) → ((x : X) → f x ≡ h x) → sum_by f xs ≡ sum_by h xs
same_sums f h [] e = refl
same_sums f h (x ∷ xs) e =
    sum_by-cons f x xs ∙ (ap (λ n. n + sum_by f xs) (e x) ∙ (ap (λ n. h x + n) (same_sums f h xs e) ∙ sym (sum_by-cons h x xs)))

turned : (a b : ℕ) → (a == b) ≡ false → (b == a) ≡ false
turned a b t = by_test _ (λ u. absurd (not_number a b t (sym (same_number b a u)))) (λ u. u)

-- u is t, but for more at one number
module _ (p more : ℕ) (t u : ℕ → ℕ) (here : (p == p) ≡ true → u p ≡ more + t p) (elsewhere : (n : ℕ) → (p == n) ≡ false → u n ≡ t n) where
  untouched : (parts : List ℕ) → has_number p parts ≡ false → sum_by u parts ≡ sum_by t parts
  untouched [] none = refl
  untouched (k ∷ parts) none = by_test _ (λ e. absurd (true≢false (rw e at none)))
      (λ e. sum_by-cons u k parts ∙ (ap (λ n. n + sum_by u parts) (elsewhere k (turned k p e))
      ∙ (ap (λ n. t k + n) (untouched parts (rw e at none)) ∙ sym (sum_by-cons t k parts))))

  touched : (parts : List ℕ) → AreApart parts → has_number p parts ≡ true → sum_by u parts ≡ more + sum_by t parts
  touched [] apart some = absurd (false≢true some)
  touched (k ∷ parts) apart some = by_test (k == p) (λ e. let same = same_number k p e in
      sum_by-cons u k parts
      ∙ (ap (λ n. n + sum_by u parts) (ap u same ∙ (here (own_number p) ∙ ap (λ n. more + t n) (sym same)))
      ∙ (ap (λ n. (more + t k) + n) (untouched parts (subst (λ n. has_number n parts ≡ false) same apart.0))
      ∙ (regroup (t k) (sum_by t parts) ∙ ap (λ n. more + n) (sym (sum_by-cons t k parts))))))
      (λ e. sum_by-cons u k parts
      ∙ (ap (λ n. n + sum_by u parts) (elsewhere k (turned k p e))
      ∙ (ap (λ n. t k + n) (touched parts apart.1 (rw e at some))
      ∙ (swapped (t k) (sum_by t parts) ∙ ap (λ n. more + n) (sym (sum_by-cons t k parts))))))
    where
      regroup : (a b : ℕ) → (more + a) + b ≡ more + (a + b)
      regroup a b = omega arith

      swapped : (a b : ℕ) → a + (more + b) ≡ more + (a + b)
      swapped a b = omega arith

-- a sum over packets is one over the parts
pub sum_of_parts : (partition : Partition) (w : List ℕ → ℕ) (parts : List ℕ) → AreApart parts → (packets : List (List ℕ))
    → All (λ words. has_number (partition words) parts ≡ true) packets
    → sum_by w packets ≡ sum_by (λ n. sum_by w (part_at partition n packets)) parts
sum_of_parts partition w parts apart [] each = sym (zeros_sum parts)
sum_of_parts partition w parts apart (words ∷ packets) each =
    sum_by-cons w words packets
    ∙ (ap (λ n. w words + n) (sum_of_parts partition w parts apart packets
    (All-tail (λ ws. has_number (partition ws) parts ≡ true) words packets each))
    ∙ sym (touched (partition words) (w words) (λ n. sum_by w (part_at partition n packets))
    (λ n. sum_by w (part_at partition n (words ∷ packets)))
    (λ e. rw e (sum_by-cons w words (part_at partition (partition words) packets)))
    (λ n e. rw e refl) parts apart (All-head (λ ws. has_number (partition ws) parts ≡ true) words packets each)))

pub sum_joined : {X Y : Type 0} (h : Y → ℕ) (g : X → List Y) (xs : List X) → sum_by h (flat_map g xs) ≡ sum_by (λ x. sum_by h (g x)) xs
sum_joined h g [] = refl
sum_joined h g (x ∷ xs) =
    sum_by-append h (g x) (flat_map g xs)
    ∙ (ap (λ n. sum_by h (g x) + n) (sum_joined h g xs) ∙ sym (sum_by-cons _ x xs))
