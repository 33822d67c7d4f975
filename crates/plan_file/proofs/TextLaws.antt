-- Laws of texts, from the law that a line makes at most one thing of what was made before it. That law is a premise here.
use Rattle.std.proofs.Common.{◌≡◌, ℕ, zero, suc, ◌<◌, List, [], ◌∷◌, length, take, Some, sym, ap, ◌∙◌, arith, inl, inr, subst, refl}
use Rattle.std.{proofs.lemmas.Bool.Decides.nat_tests, specs.Prelude.{slice_get, ◌⊎◌, nat_lt, Bool, true, false}}
use Rattle.plan_file.specs.{declared.made.Made.Made, Lexis.{bytes_after_lines, lines, start_of_line}, Lines.{IsLine, IsValidAfter, nothing}}
use Rattle.plan_file.specs.Texts.{Make, Says, IsBadAt, IsFirstBadLine}

-- a line makes at most one thing
abbrev pub MakesOne : Type 0
MakesOne = (before : Made) (line : List ℕ) (a b : Made) → IsLine before line a → IsLine before line b → a ≡ b

pub make_once : MakesOne → (ls : List (List ℕ)) (x y z : Made) → Make ls x y → Make ls x z → y ≡ z
make_once one [] x y z p q = p ∙ sym q
make_once one (l ∷ ls) x y z p q =
    let same : p.0 ≡ q.0 = one x l p.0 q.0 p.1 q.1 in
    make_once one ls q.0 y z (subst (λ m. Make ls m y) same p.2) q.2

-- each of the lines that are valid in sequence is valid after those before it
pub make_at : MakesOne → (ls : List (List ℕ)) (x y : Made) → Make ls x y → (i : ℕ) (b : Made) (line : List ℕ) → Make (take i ls) x b
    → slice_get ls i ≡ Some line → IsValidAfter b line
make_at one [] x y p zero b line q e = cc
make_at one [] x y p (suc i) b line q e = cc
make_at one (l ∷ ls) x y p zero b line q e =
    let same : l ≡ line = cc in
    (p.0, subst (λ t. IsLine b t p.0) same (subst (λ m. IsLine m l p.0) (sym q) p.1))
make_at one (l ∷ ls) x y p (suc i) b line q e =
    let same : p.0 ≡ q.0 = one x l p.0 q.0 p.1 q.1 in
    make_at one ls q.0 y (subst (λ m. Make ls m y) same p.2) i b line q.2 e

-- a text says at most one thing
pub says_one : MakesOne → (text : List ℕ) (a b : Made) → Says text a → Says text b → a ≡ b
says_one one text a b p q = make_once one (lines text) nothing a b p.valid q.valid

-- a valid text is refused nowhere
pub not_refused : MakesOne → (text : List ℕ) (plan : Made) (place : ℕ) → Says text plan → IsBadAt text place → ⊥
not_refused one text plan place says (inl long) = omega (arith, says.size, long.0)
not_refused one text plan place says (inr (size, inl (i, first, at))) =
    first.bad (make_at one (lines text) nothing plan says.valid i first.before first.line first.valid_before first.is)
not_refused one text plan place says (inr (size, inr (ends, at))) = by ends.bad
  where
    by : (0 < length (bytes_after_lines text)) ⊎ (ends.plan.prints ≡ []) → ⊥
    by (inl more) = omega (arith, ap length says.ended, more)
    by (inr none) =
        let same : plan ≡ ends.plan = make_once one (lines text) nothing plan ends.plan says.valid ends.valid in
        let size : length plan.prints ≡ length ends.plan.prints = ap (λ m. length m.prints) same in
        omega (arith, says.printed, size, ap length none)

-- no line after a bad one is reached
not_after : MakesOne → (ls : List (List ℕ)) (x b c : Made) (i j : ℕ) (l : List ℕ) → i < j → Make (take i ls) x b → slice_get ls i ≡ Some l
    → (IsValidAfter b l → ⊥) → Make (take j ls) x c → ⊥
not_after one [] x b c zero j l lt p e bad q = cc
not_after one [] x b c (suc i) j l lt p e bad q = cc
not_after one (m ∷ ls) x b c zero zero l lt p e bad q = omega (arith, lt)
not_after one (m ∷ ls) x b c zero (suc j) l lt p e bad q =
    let same : m ≡ l = cc in
    bad (q.0, subst (λ t. IsLine b t q.0) same (subst (λ y. IsLine y m q.0) (sym p) q.1))
not_after one (m ∷ ls) x b c (suc i) zero l lt p e bad q = omega (arith, lt)
not_after one (m ∷ ls) x b c (suc i) (suc j) l lt p e bad q =
    let same : q.0 ≡ p.0 = one x m q.0 p.0 q.1 p.1 in
    not_after one ls p.0 b c i j l (omega (arith, lt)) p.2 e bad (subst (λ y. Make (take j ls) y c) same q.2)

-- a text has one first bad line
pub first_bad_once : MakesOne → (text : List ℕ) (i j : ℕ) → IsFirstBadLine text i → IsFirstBadLine text j → i ≡ j
first_bad_once one text i j p q = by (nat_lt i j) (nat_lt j i) refl refl
  where
    by : (a b : Bool) → nat_lt i j ≡ a → nat_lt j i ≡ b → i ≡ j
    by true b f g = absurd (not_after one (lines text) nothing p.before q.before i j p.line (grind (arith, nat_tests)) p.valid_before p.is
        p.bad q.valid_before)
    by false true f g = absurd (not_after one (lines text) nothing q.before p.before j i q.line (grind (arith, nat_tests)) q.valid_before
        q.is q.bad p.valid_before)
    by false false f g = grind (arith, nat_tests)

-- a text is refused at one place at most
pub place_once : MakesOne → (text : List ℕ) (a b : ℕ) → IsBadAt text a → IsBadAt text b → a ≡ b
place_once one text a b (inl p) (inl q) = p.1 ∙ sym q.1
place_once one text a b (inl p) (inr q) = absurd (omega (arith, p.0, q.0))
place_once one text a b (inr p) (inl q) = absurd (omega (arith, p.0, q.0))
place_once one text a b (inr (s, inl (i, p, e))) (inr (t, inl (j, q, f))) = e
    ∙ ap (λ n. start_of_line text n) (first_bad_once one text i j p q) ∙ sym f
place_once one text a b (inr (s, inl (i, p, e))) (inr (t, inr (ends, f))) =
    absurd (p.bad (make_at one (lines text) nothing ends.plan ends.valid i p.before p.line p.valid_before p.is))
place_once one text a b (inr (s, inr (ends, f))) (inr (t, inl (i, p, e))) =
    absurd (p.bad (make_at one (lines text) nothing ends.plan ends.valid i p.before p.line p.valid_before p.is))
place_once one text a b (inr (s, inr (m, e))) (inr (t, inr (n, f))) = e ∙ sym f
