-- The places of the history variables are those of the history variables.
use Rattle.std.proofs.Common.{◌≡◌, ℕ, zero, suc, Bool, true, false, ◌&&◌, ◌||◌, ◌==◌, nat_lt, if◌then◌else◌, List, [], ◌∷◌, ◌++◌, refl, sym}
use Rattle.std.proofs.{Common.{ap, ◌∙◌, arith}, lemmas.Bool.Decides.nat_tests}
use mathlib.Core.Path.{fun_ext}
use Rattle.query_lang.specs.{declared.fold.TypedFold.TypedFold, Folds.fold_states}
use Rattle.fold_class.specs.{Depth.is_history, Step.{places, history_places}, Translations.is_remembered}
use Rattle.fold_code.specs.Checks.{is_in}

or_false : (b : Bool) → (b || false) ≡ b
or_false true = refl
or_false false = refl

in_pushed : (xs : List ℕ) (n v : ℕ) → is_in (xs ++ n ∷ []) v ≡ (is_in xs v || (v == n))
in_pushed [] n v = or_false _
in_pushed (x ∷ xs) n v = cc (in_pushed xs n v, three (v == x) (is_in xs v) (v == n))
  where
    three : (a b c : Bool) → (a || (b || c)) ≡ ((a || b) || c)
    three true b c = refl
    three false b c = refl

in_places : (p : ℕ → Bool) (n v : ℕ) → is_in (places p n) v ≡ (nat_lt v n && p v)
in_places p zero v = let off : nat_lt v 0 ≡ false = grind (arith, nat_tests) in rw off
in_places p (suc n) v = at (in_places _ n _) (p n) refl ∙ last _ refl _ refl
  where
    at : is_in (places p n) v ≡ (nat_lt v n && p v) → (b : Bool) → p n ≡ b
        → is_in (if b then places p n ++ n ∷ [] else places p n) v ≡ ((nat_lt v n && p v) || ((v == n) && b))
    at before true e = in_pushed (places p n) n v ∙ ap (λ z. z || (v == n)) before
        ∙ ap (λ z. (nat_lt v n && p v) || z) (sym (and_true (v == n)))
      where
        and_true : (b : Bool) → (b && true) ≡ b
        and_true true = refl
        and_true false = refl
    at before false e = before ∙ sym (or_false (nat_lt v n && p v)) ∙ ap (λ z. (nat_lt v n && p v) || z) (sym (and_off (v == n)))
      where
        and_off : (b : Bool) → (b && false) ≡ false
        and_off true = refl
        and_off false = refl

    last : (l : Bool) → nat_lt v n ≡ l → (k : Bool) → (v == n) ≡ k → ((nat_lt v n && p v) || ((v == n) && p n)) ≡ (nat_lt v (suc n) && p v)
    last true t k u =
        let on : nat_lt v (suc n) ≡ true = grind (arith, nat_tests) in
        let off : (v == n) ≡ false = grind (arith, nat_tests) in
        simp (t, off, or_false, on)
    last false t true u =
        let same : n ≡ v = grind (arith, nat_tests) in
        let on : nat_lt v (suc n) ≡ true = grind (arith, nat_tests) in
        ap (λ z. (z && p v) || ((v == n) && p n)) t ∙ ap (λ z. z && p n) u ∙ ap p same ∙ sym (ap (λ z. z && p v) on)
    last false t false u =
        let off : nat_lt v (suc n) ≡ false = grind (arith, nat_tests) in
        rw (t, u, off)

-- the list of a fold's history variables has them
pub listed : (f : TypedFold) (list : List ℕ) → list ≡ history_places f → is_in list ≡ is_remembered f
listed f _ e = cc (fun_ext (λ v. in_places (is_history f) (fold_states f) v))
