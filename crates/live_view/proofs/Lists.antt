-- Lists that are filtered, and lists from their end back.
use Rattle.std.proofs.Common.{◌≡◌, ◌≤◌, ℕ, zero, suc, Bool, true, false, List, [], ◌∷◌, ◌++◌, length, take, drop, get_or, filter, flat_map}
use Rattle.std.proofs.{Common.{reverse, refl, sym, ap, ◌∙◌, arith, append-nil, length-drop, take-append-drop}, lemmas.List.{reverse-append, take-append-le, take_all}}
use Rattle.std.proofs.lemmas.List.Elements.{filter-append}

-- two cases, by a test
pub by_test : {P : Type 0} (t : Bool) → (t ≡ true → P) → (t ≡ false → P) → P
by_test true so not_so = so refl
by_test false so not_so = not_so refl

pub filter-reverse : {X : Type 0} (p : X → Bool) (xs : List X) → filter p (reverse xs) ≡ reverse (filter p xs)
filter-reverse p [] = refl
filter-reverse p (x ∷ xs) =
    ap (filter p) (reverse-append (x ∷ []) xs) ∙ (filter-append p (reverse xs) (x ∷ [])
    ∙ (ap (λ ys. ys ++ filter p (x ∷ [])) (filter-reverse p xs)
    ∙ by_test (p x) (λ e. rw e (sym (reverse-append (x ∷ []) (filter p xs)))) (λ e. rw e (append-nil (reverse (filter p xs))))))

-- no list has anything that passes
pub none_pass : {X : Type 0} (p : X → Bool) (lists : List (List X)) → ((i : ℕ) → filter p (get_or lists i []) ≡ [])
    → filter p (flat_map (λ xs. reverse xs) lists) ≡ []
none_pass p [] h = refl
none_pass p (xs ∷ lists) h =
    filter-append p (reverse xs) (flat_map (λ ys. reverse ys) lists)
    ∙ (ap (λ ys. ys ++ filter p (flat_map (λ zs. reverse zs) lists)) (filter-reverse p xs ∙ ap (λ ys. reverse ys) (h zero))
    ∙ none_pass p lists (λ i. h (suc i)))

-- one list alone has what passes, and that reads alike from both ends
pub one_passes : {X : Type 0} (p : X → Bool) (at : ℕ) (lists : List (List X)) → ((i : ℕ) → (i ≡ at → ⊥) → filter p (get_or lists i []) ≡ [])
    → reverse (filter p (get_or lists at [])) ≡ filter p (get_or lists at [])
    → filter p (flat_map (λ xs. reverse xs) lists) ≡ filter p (get_or lists at [])
one_passes p at [] h r = refl
one_passes p zero (xs ∷ lists) h r =
    filter-append p (reverse xs) (flat_map (λ ys. reverse ys) lists)
    ∙ (ap (λ ys. filter p (reverse xs) ++ ys) (none_pass p lists (λ i. h (suc i) (λ e. absurd (omega arith))))
    ∙ (append-nil (filter p (reverse xs)) ∙ (filter-reverse p xs ∙ r)))
one_passes p (suc at) (xs ∷ lists) h r =
    filter-append p (reverse xs) (flat_map (λ ys. reverse ys) lists)
    ∙ (ap (λ ys. ys ++ filter p (flat_map (λ zs. reverse zs) lists)) (filter-reverse p xs
    ∙ ap (λ ys. reverse ys) (h zero (λ e. absurd (omega arith))))
    ∙ one_passes p at lists (λ i d. h (suc i) (λ e. d (omega arith))) r)

pub few_pass : {X : Type 0} (p : X → Bool) (xs : List X) → length (filter p xs) ≤ length xs
few_pass p [] = omega arith
few_pass p (x ∷ xs) = let rest = few_pass p xs in by_test (p x) (λ e. rw e (omega arith)) (λ e. rw e (omega arith))

-- where as many pass as there are, all pass
pub all_pass : {X : Type 0} (p : X → Bool) (xs : List X) → length xs ≤ length (filter p xs) → filter p xs ≡ xs
all_pass p [] h = refl
all_pass p (x ∷ xs) h = by_test (p x)
    (λ e. let long : suc (length xs) ≤ suc (length (filter p xs)) = rw e at h in rw e (ap (λ ys. x ∷ ys) (all_pass p xs (omega arith))))
    (λ e. let long : suc (length xs) ≤ length (filter p xs) = rw e at h in let few = few_pass p xs in absurd (omega arith))

-- a list from its end back: its last one first
pub last_first : {X : Type 0} (n : ℕ) (xs : List X) → length xs ≡ suc n → drop n xs ++ reverse (take n xs) ≡ reverse xs
last_first n xs e =
    let one : length (drop n xs) ≡ suc zero = length-drop n xs ∙ (let q : _ = omega arith in q) in
    ap (λ ys. ys ++ reverse (take n xs)) (sym (alone (drop n xs) one))
    ∙ (sym (reverse-append (take n xs) (drop n xs)) ∙ ap (λ ys. reverse ys) (take-append-drop n xs))
  where
    alone : {X : Type 0} (ys : List X) → length ys ≡ suc zero → reverse ys ≡ ys
    alone [] e = refl
    alone (y ∷ []) e = refl
    alone (y ∷ z ∷ ys) e = absurd (omega arith)

-- what is written over the whole of a list is all of it
pub all_written : (n : ℕ) (xs rest : List ℕ) → n ≡ length xs → take n (xs ++ rest) ≡ xs
all_written n xs rest same = take-append-le n xs rest (omega (arith, same)) ∙ take_all n xs (omega (arith, same))
