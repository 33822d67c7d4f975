-- Lists of keys: which keys they have, each key once, and what comes before a key.
use Rattle.std.proofs.Common.{◌≡◌, ℕ, zero, suc, Bool, true, false, cond, ◌&&◌, ◌||◌, List, [], ◌∷◌, length, take, ltb, refl, sym, ap, ◌∙◌}
use Rattle.std.proofs.{Common.{subst, arith}, lemmas.Bool.{true≢false, false≢true, lt-ltb, le-ltb, ltb-true, ltb-false}}
use Rattle.std.specs.{Prelude.nat_lt, Cmp.Lexicographic.bytes_decides}
use Rattle.epoch_model.specs.Keys.{Key, key_eq, others, distinct, has}

-- two cases, by a test
pub by_test : {P : Type 0} (t : Bool) → (t ≡ true → P) → (t ≡ false → P) → P
by_test true so not_so = so refl
by_test false so not_so = not_so refl

pub key_eq-true : (a b : Key) → key_eq a b ≡ true → a ≡ b
unfolding key_eq
key_eq-true a b = (bytes_decides a b).0

pub key_eq-refl : (a : Key) → key_eq a a ≡ true
unfolding key_eq
key_eq-refl a = (bytes_decides a a).1 refl

pub key_eq-not : (a b : Key) → key_eq a b ≡ false → a ≡ b → ⊥
key_eq-not a b e p = let h : key_eq a b ≡ true = subst (λ x. key_eq a x ≡ true) p (key_eq-refl a) in true≢false (sym h ∙ e)

-- equal keys compare alike with a third
pub key_eq-along : (a b c : Key) → key_eq a b ≡ true → key_eq a c ≡ key_eq b c
key_eq-along a b c e = ap (λ x. key_eq x c) (key_eq-true a b e)

pub key_eq-sym_false : (a b : Key) → key_eq a b ≡ false → key_eq b a ≡ false
key_eq-sym_false a b e = by_test _ (λ h. absurd (key_eq-not a b e (sym (key_eq-true b a h)))) (λ h. h)

-- two different keys aren't both equal to a third
pub apart : (a b c : Key) → key_eq a b ≡ false → key_eq a c ≡ true → key_eq b c ≡ false
apart a b c e h = by_test _ (λ i. absurd (key_eq-not a b e (key_eq-true a c h ∙ sym (key_eq-true b c i)))) (λ i. i)

-- what comes before the key
abbrev pub before : Key → List Key → List Key
before key [] = []
before key (x ∷ xs) = cond (key_eq x key) [] (x ∷ before key xs)

abbrev pub IsDistinct : List Key → Type 0
IsDistinct [] = Unit {0}
IsDistinct (x ∷ xs) = (has x xs ≡ false) × IsDistinct xs

-- a list without the key has another key first, and none after it
pub absent_head : (k x : Key) (xs : List Key) → has k (x ∷ xs) ≡ false → (key_eq x k ≡ false) × (has k xs ≡ false)
absent_head k x xs h = by_test _ (λ e. absurd (true≢false (sym (ap (λ t. t || has k xs) e) ∙ h)))
    (λ e. (e, sym (ap (λ t. t || has k xs) e) ∙ h))

pub others_absent : (k : Key) (xs : List Key) → has k xs ≡ false → others k xs ≡ xs
others_absent k [] h = refl
others_absent k (x ∷ xs) h = let a = absent_head k x _ h in rw a.0 (ap (λ ys. x ∷ ys) (others_absent k _ a.1))

pub has-others_same : (k : Key) (xs : List Key) → has k (others k xs) ≡ false
has-others_same k [] = refl
has-others_same k (x ∷ xs) = by_test (key_eq x k) (λ e. rw e (has-others_same k xs)) (λ e. rw (e, e) (has-others_same k xs))

pub has-others_other : (k j : Key) (xs : List Key) → key_eq k j ≡ false → has j (others k xs) ≡ has j xs
has-others_other k j [] h = refl
has-others_other k j (x ∷ xs) h = by_test (key_eq x k)
    (λ e. let f : key_eq x j ≡ false = key_eq-along x k j e ∙ h in rw (e, f) (has-others_other k j xs h))
    (λ e. rw e (ap (λ t. key_eq x j || t) (has-others_other k j xs h)))

-- absent from the whole, absent from the others
pub has-others_false : (k j : Key) (xs : List Key) → has j xs ≡ false → has j (others k xs) ≡ false
has-others_false k j xs h = by_test _ (λ e. subst (λ i. has i (others k xs) ≡ false) (key_eq-true k j e) (has-others_same k _))
    (λ e. has-others_other k j _ e ∙ h)

pub others-distinct : (k : Key) (xs : List Key) → IsDistinct xs → IsDistinct (others k xs)
others-distinct k [] d = tt
others-distinct k (x ∷ xs) d = by_test (key_eq x k) (λ e. rw e (others-distinct k xs d.1))
    (λ e. rw e (has-others_false k x xs d.0, others-distinct k xs d.1))

pub distinct-distinct : (xs : List Key) → IsDistinct (distinct xs)
distinct-distinct [] = tt
distinct-distinct (x ∷ xs) = (has-others_same x (distinct xs), others-distinct x (distinct xs) (distinct-distinct xs))

pub has-distinct : (k : Key) (xs : List Key) → has k (distinct xs) ≡ has k xs
has-distinct k [] = refl
has-distinct k (x ∷ xs) = by_test (key_eq x k) (λ e. rw e refl) (λ e. rw e (has-others_other x k (distinct xs) e ∙ has-distinct k xs))

-- what comes before k is the same whether another key is left out before or after
pub before-others : (k x : Key) (xs : List Key) → key_eq x k ≡ false → before k (others x xs) ≡ others x (before k xs)
before-others k x [] h = refl
before-others k x (y ∷ ys) h = by_test (key_eq y x)
    (λ e. let f : key_eq y k ≡ false = key_eq-along y x k e ∙ h in rw (e, f, e) (before-others k x ys h)) (λ e. by_test (key_eq y k)
    (λ f. rw (e, f) refl) (λ f. rw (e, f, e) (ap (λ zs. y ∷ zs) (before-others k x ys h))))

pub before-distinct : (k : Key) (xs : List Key) → before k (distinct xs) ≡ distinct (before k xs)
before-distinct k [] = refl
before-distinct k (x ∷ xs) = by_test (key_eq x k) (λ e. rw e refl)
    (λ e. rw e (ap (λ ys. x ∷ ys) (before-others k x (distinct xs) e ∙ ap (others x) (before-distinct k xs))))

pub ltb-suc : (m n : ℕ) → ltb (suc m) (suc n) ≡ ltb m n
ltb-suc m n = by_test _ (λ e. let l = ltb-true m n e in lt-ltb (suc m) (suc n) (omega arith) ∙ sym e)
    (λ e. let l = ltb-false m n e in le-ltb (suc m) (suc n) (omega arith) ∙ sym e)

-- the first n keys have k exactly where fewer than n come before k
pub has-take : (n : ℕ) (k : Key) (xs : List Key) → has k (take n xs) ≡ (has k xs && nat_lt (length (before k xs)) n)
has-take zero k xs = by_test (has k xs) (λ e. rw e (sym (le-ltb (length (before k xs)) 0 (omega arith)))) (λ e. rw e refl)
has-take (suc n) k [] = refl
has-take (suc n) k (x ∷ xs) = by_test (key_eq x k) (λ e. rw e (sym (lt-ltb 0 (suc n) (omega arith))))
    (λ e. rw e (has-take n k xs ∙ ap (λ t. has k xs && t) (sym (ltb-suc (length (before k xs)) n))))

front_known_at : (n : ℕ) (k x : Key) (xs : List Key) → has x xs ≡ false → key_eq x k ≡ true → others k (take n xs) ≡ take n (others k xs)
front_known_at n k x xs h e =
    let gone : has k xs ≡ false = subst (λ j. has j xs ≡ false) (key_eq-true x k e) h in
    let front : has k (take n xs) ≡ false = has-take n k _ ∙ ap (λ t. t && nat_lt (length (before k xs)) n) gone in
    others_absent k _ front ∙ ap (take n) (sym (others_absent k _ gone))

-- k is moved to the front of the first n keys
pub front_known : (n : ℕ) (k : Key) (xs : List Key) → IsDistinct xs → has k (take (suc n) xs) ≡ true
    → others k (take (suc n) xs) ≡ take n (others k xs)
front_known n k [] d h = absurd (false≢true h)
front_known zero k (x ∷ xs) d h = by_test (key_eq x k) (λ e. rw e (front_known_at zero k x xs d.0 e))
    (λ e. absurd (false≢true (sym (ap (λ t. t || false) e) ∙ h)))
front_known (suc n) k (x ∷ xs) d h = by_test (key_eq x k) (λ e. rw e (front_known_at (suc n) k x xs d.0 e))
    (λ e. rw e (ap (λ ys. x ∷ ys) (front_known n k xs d.1 (sym (ap (λ t. t || has k (take (suc n) xs)) e) ∙ h))))

pub front_new : (n : ℕ) (k : Key) (xs : List Key) → has k (take n xs) ≡ false → take n (others k xs) ≡ take n xs
front_new zero k xs h = refl
front_new (suc n) k [] h = refl
front_new (suc n) k (x ∷ xs) h = let a = absent_head k x _ h in rw a.0 (ap (λ ys. x ∷ ys) (front_new n k _ a.1))
