-- The top rows of all parts are among the parts' own top rows.
use Rattle.part_laws.proofs.Words.{◌≡◌, ℕ, zero, suc, ◌+◌, ◌≤◌, ◌<◌, Bool, true, false, cond, min, List, [], ◌∷◌, ◌++◌, filter, flat_map}
use Rattle.part_laws.proofs.Words.{◌⊎◌, inl, inr, refl, sym, ap, ◌∙◌, arith, count_by, false≢true, nat_tests, sum_by-cons, by_test}
use Rattle.part_laws.proofs.{Words.{has_number, same_number}, Ordered.filter_joined, FinalRows.same_members}
use Rattle.std.proofs.Common.{nat_lt}

-- ---- any order on any list

count_one : {A : Type 0} (p : A → Bool) (x : A) (xs : List A) → count_by p (x ∷ xs) ≡ cond (p x) 1 0 + count_by p xs
count_one p x xs = sum_by-cons _ x xs

-- what passes one test passes the other
counts_less : {A : Type 0} (p q : A → Bool) (xs : List A) → ((x : A) → p x ≡ true → q x ≡ true) → count_by p xs ≤ count_by q xs
counts_less p q [] more = omega arith
counts_less p q (x ∷ xs) more =
    let rest = counts_less p q xs more in by_test (p x)
    (λ e. omega (
      arith,
      count_one p x xs ∙ ap (λ b. cond b 1 0 + count_by p xs) e,
      count_one q x xs
          ∙ ap (λ b. cond b 1 0 + count_by q xs) (more x e),
    ))
    (λ e. omega (arith, count_one p x xs ∙ ap (λ b. cond b 1 0 + count_by p xs) e, count_one q x xs))

fewer : {A : Type 0} (p t : A → Bool) (xs : List A) → count_by p (filter t xs) ≤ count_by p xs
fewer p t [] = omega arith
fewer p t (x ∷ xs) =
    let rest = fewer p t xs in by_test (t x)
    (λ e. rw e (omega (arith, count_one p x xs, count_one p x (filter t xs))))
    (λ e. rw e (omega (arith, count_one p x xs)))

count_both : {A : Type 0} (p : A → Bool) (xs ys : List A) → count_by p (xs ++ ys) ≡ count_by p xs + count_by p ys
count_both p [] ys = omega arith
count_both p (x ∷ xs) ys =
    let rest = count_both p xs ys in omega (arith, count_one p x xs, count_one p x (xs ++ ys))

-- an element that passes the one test and not the other, among these
record Found {A : Type 0} (p t : A → Bool) (xs : List A) : Type 0 where
  found : A
  passes : p found ≡ true
  fails : t found ≡ false
  strict : (q r : A → Bool) → ((x : A) → q x ≡ true → r x ≡ true) → q found ≡ false → r found ≡ true → count_by q xs < count_by r xs

more_found : {A : Type 0} (p t : A → Bool) (x : A) (xs : List A) → Found p t xs → Found p t (x ∷ xs)
more_found p t x xs h = record {
  found = h.found;
  passes = h.passes;
  fails = h.fails;
  strict = λ q r more no yes.
      let rest = h.strict q r more no yes in by_test _
      (λ e. omega (
        arith,
        count_one q x xs ∙ ap (λ b. cond b 1 0 + count_by q xs) e,
        count_one r x xs
            ∙ ap (λ b. cond b 1 0 + count_by r xs) (more x e),
      ))
      (λ e. omega (arith, count_one q x xs ∙ ap (λ b. cond b 1 0 + count_by q xs) e, count_one r x xs));
}

first_found : {A : Type 0} (p t : A → Bool) (x : A) (xs : List A) → p x ≡ true → t x ≡ false → Found p t (x ∷ xs)
first_found p t x xs passes fails = record {
  found = x;
  passes = passes;
  fails = fails;
  strict = λ q r more no yes. omega (
    arith,
    counts_less q r xs more,
    count_one q x xs ∙ ap (λ b. cond b 1 0 + count_by q xs) no,
    count_one r x xs ∙ ap (λ b. cond b 1 0 + count_by r xs) yes,
  );
}

-- either all that pass the one test pass the other, or one of them doesn't
search_for : {A : Type 0} (p t : A → Bool) (xs : List A) → (count_by p (filter t xs) ≡ count_by p xs) ⊎ Found p t xs
search_for p t [] = inl refl
search_for p t (x ∷ xs) = go (search_for p t xs)
  where
    go : (count_by p (filter t xs) ≡ count_by p xs) ⊎ Found p t xs → (count_by p (filter t (x ∷ xs)) ≡ count_by p (x ∷ xs)) ⊎ Found p t
        (x ∷ xs)
    go (inr h) = inr (more_found p t x xs h)
    go (inl e) = by_test (t x) (λ k. inl (rw k (count_one p x (filter t xs) ∙ (ap (λ n. cond (p x) 1 0 + n) e ∙ sym (count_one p x xs)))))
        (λ k. by_test (p x) (λ y. inr (first_found p t x xs y k)) (λ y. inl
        (rw k (omega (arith, e, count_one p x xs ∙ ap (λ b. cond b 1 0 + count_by p xs) y)))))

below_kept : (n kept : ℕ) → nat_lt n kept ≡ false → kept ≤ n
below_kept n kept e = grind (arith, nat_tests)

same_below : (a b kept : ℕ) → min kept b ≤ a → a ≤ b → nat_lt a kept ≡ nat_lt b kept
same_below a b kept few most = by_test _ (λ e. let lt : b < kept = grind (arith, nat_tests) in
    let less : a < kept = omega arith in
    let is : nat_lt a kept ≡ true = grind (arith, nat_tests) in is ∙ sym e)
    (λ e. let le : kept ≤ b = grind (arith, nat_tests) in
    let more : kept ≤ a = omega arith in
    let is : nat_lt a kept ≡ false = grind (arith, nat_tests) in is ∙ sym e)

below_less : (a b kept : ℕ) → a ≤ b → nat_lt b kept ≡ true → nat_lt a kept ≡ true
below_less a b kept le e =
    let lt : b < kept = grind (arith, nat_tests) in
    let less : a < kept = omega arith in grind (arith, nat_tests)

-- how many go before
abbrev pub rank_in : {A : Type 0} → (A → A → Bool) → List A → A → ℕ
rank_in before all x = count_by (λ y. before y x) all

abbrev pub top_of : {A : Type 0} → (A → A → Bool) → ℕ → List A → List A
top_of before kept all = filter (λ x. nat_lt (rank_in before all x) kept) all

-- one after the other two tests, where the last says as much as both
filter_both : {A : Type 0} (a b c : A → Bool) (xs : List A) → ((x : A) → a x ≡ c x) → ((x : A) → c x ≡ true → b x ≡ true)
    → filter a (filter b xs) ≡ filter c xs
filter_both a b c [] same more = refl
filter_both a b c (x ∷ xs) same more =
    let rest = filter_both a b c xs same more in by_test (c x)
    (λ e. rw e (rw (more x e) (rw (same x ∙ e) (ap (λ ys. x ∷ ys) rest))))
    (λ e. rw e (by_test (b x) (λ k. rw k (rw (same x ∙ e) rest)) (λ k. rw k rest)))

module _ {A : Type 0} (before : A → A → Bool) (irreflexive : (x : A) → before x x ≡ false)
    (transitive : (x y z : A) → before x y ≡ true → before y z ≡ true → before x z ≡ true) (kept : ℕ) where
  -- as many top rows go before a row as are asked for, or all that do
  abbrev HasEnough : List A → A → Type 0
  HasEnough all x = min kept (rank_in before all x) ≤ count_by (λ y. before y x) (top_of before kept all)

  enough_by : (all : List A) (x : A) → ((y : A) → rank_in before all y < rank_in before all x → HasEnough all y)
      → (count_by (λ y. before y x) (top_of before kept all) ≡ rank_in before all x) ⊎ Found (λ y. before y x)
      (λ y. nat_lt (rank_in before all y) kept) all → HasEnough all x
  enough_by all x again (inl e) = omega arith
  enough_by all x again (inr h) =
      let more : (y : A) → before y h.found ≡ true → before y x ≡ true = λ y b. transitive y h.found x b h.passes in
      let lt = h.strict (λ y. before y _) (λ y. before y x) more (irreflexive h.found) h.passes in
      let most = below_kept _ _ h.fails in
      let less = counts_less _ _ (top_of before kept all) more in
      omega (arith, again h.found lt)

  enough : (fuel : ℕ) (all : List A) (x : A) → rank_in before all x ≤ fuel → HasEnough all x
  enough zero all x le = enough_by _ x (λ y lt. absurd (omega (arith, lt))) (search_for _ _ _)
  enough (suc n) all x le =
      enough_by _ x (λ y lt. enough n _ y (omega (arith, lt)))
      (search_for _ _ _)

  module _ (rows : ℕ → List A) where
    abbrev tops : ℕ → List A
    tops n = top_of before kept (rows n)

    tops_between : (x : A) (parts : List ℕ) → (min kept (rank_in before (flat_map rows parts) x) ≤ rank_in before (flat_map tops parts) x)
        × (rank_in before (flat_map tops parts) x ≤ rank_in before (flat_map rows parts) x)
    tops_between x [] = (omega arith, omega arith)
    tops_between x (n ∷ parts) =
        let rest = tops_between x parts in
        let here = enough (rank_in before (rows n) x) (rows n) x (omega arith) in
        let few = fewer (λ y. before y x) (λ y. nat_lt (rank_in before (rows n) y) kept) (rows n) in
        let all = count_both (λ y. before y x) (rows n) (flat_map rows parts) in
        let some = count_both (λ y. before y x) (tops n) (flat_map tops parts) in
        (omega (arith, rest.0, here, all, some), omega (arith, rest.1, few, all, some))

    part_less : (x : A) (n : ℕ) (parts : List ℕ) → has_number n parts ≡ true
        → rank_in before (rows n) x ≤ rank_in before (flat_map rows parts) x
    part_less x n [] e = absurd (false≢true e)
    part_less x n (m ∷ parts) e =
        let all = count_both (λ y. before y x) (rows m) (flat_map rows parts) in by_test _
        (λ t. let same : rank_in before (rows m) x ≡ rank_in before (rows n) x =
        ap (λ k. rank_in before (rows k) x) (same_number m n t) in omega arith)
        (λ t. let rest = part_less x n parts (rw t at e) in omega (arith, all, rest))

    -- the top rows of the parts' top rows are those of all rows
    pub tops_of_tops : (parts : List ℕ) → top_of before kept (flat_map tops parts) ≡ top_of before kept (flat_map rows parts)
    tops_of_tops parts =
        let all : List A = flat_map rows parts in
        let some : List A = flat_map tops parts in
        let top : A → Bool = λ x. nat_lt (rank_in before all x) kept in
        let top_here : A → Bool = λ x. nat_lt (rank_in before some x) kept in
        filter_joined top_here tops parts
        ∙ (same_members (λ n. filter top_here (tops n)) (λ n. filter top (rows n)) parts
        (λ n has. filter_both _ (λ x. nat_lt (rank_in before (rows n) x) kept) _ (rows n)
        (λ x. let b = tops_between x parts in same_below _ _ _ b.0 b.1)
        (λ x e. below_less _ _ kept (part_less x n parts has) e))
        ∙ sym (filter_joined top rows parts))
