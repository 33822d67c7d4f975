-- Ranges that are next to one another.
use Rattle.std.proofs.Common.{◌≡◌, ℕ, zero, suc, ◌+◌, ◌-◌, ◌≤◌, ◌==◌, Bool, true, false, cond, ◌&&◌, ◌||◌, List, [], ◌∷◌, ◌++◌, length}
use Rattle.std.proofs.{Common.{refl, sym, ap, ◌∙◌, inl, inr, arith}, lemmas.Bool.{true≢false, Decides.{eqb_tells, nat_tests}}}
use Rattle.std.specs.Prelude.{nat_lt}
use Rattle.trace_pieces.specs.declared.scan.Place.{Place}
use Rattle.trace_ranges.specs.{Ranges.{begins, kept}, Spots.{is_between, place_after}}
use Rattle.trace_ranges.proofs.WindowFacts.{begins_now, begun, kept_none, past_kept}

-- the second range keeps only bytes after those of the first one
abbrev pub AreApart : Bool → Bool → ℕ → Type 0
AreApart first second middle = second ≡ true → (first ≡ false) × (middle ≡ 0)

pub begins_apart : (from middle to : ℕ) → from ≤ middle → AreApart (begins from middle) (begins middle to) middle
begins_apart from middle to below e =
    let none : middle ≡ 0 = zero_of middle (nat_lt 0 to) e in
    (ap (λ m. (from == 0) && nat_lt 0 m) none ∙ no_room (from == 0), none)
  where
    zero_of : (m : ℕ) (b : Bool) → ((m == 0) && b) ≡ true → m ≡ 0
    zero_of zero b e = refl
    zero_of (suc m) b e = elim (eqb_tells (suc m) 0) [
      | inl same ↦ same.1
      | inr differs ↦ absurd (true≢false (sym e ∙ ap (λ x. x && b) differs.0))
    ]

    no_room : (b : Bool) → (b && nat_lt 0 0) ≡ false
    no_room true = refl
    no_room false = refl

-- the same after a byte
pub apart_after : (b first second : Bool) (from middle to : ℕ) → from ≤ middle → AreApart first second middle
    → AreApart (cond b (begins (from - 1) (middle - 1)) first) (cond b (begins (middle - 1) (to - 1)) second) (middle - 1)
apart_after true first second from middle to below apart = begins_apart (from - 1) (middle - 1) (to - 1) (omega (arith, below))
apart_after false first second from middle to below apart = λ e. let none = (apart e).1 in ((apart e).0, omega (arith, none))

begins_join : (from middle to : ℕ) → from ≤ middle → middle ≤ to → begins from to ≡ (begins from middle || begins middle to)
begins_join from middle to a b = grind (arith, nat_tests)

-- two ranges next to one another keep what the range that they are together keeps
abbrev Joins : List ℕ → Type 0
Joins rest = (at : Place) (first second : Bool) (from middle to : ℕ) → from ≤ middle → middle ≤ to → AreApart first second middle
    → kept (begun at (first || second) from to) rest ≡ kept (begun at first from middle) rest ++ kept (begun at second middle to) rest

next : (rest : List ℕ) → Joins rest → (at : Place) (b first second : Bool) (from middle to : ℕ) → from ≤ middle → middle ≤ to
    → AreApart first second middle
    → kept (begun at (cond b (begins (from - 1) (to - 1)) (first || second)) (from - 1) (to - 1)) rest
    ≡ kept (begun at (cond b (begins (from - 1) (middle - 1)) first) (from - 1) (middle - 1)) rest
    ++ kept (begun at (cond b (begins (middle - 1) (to - 1)) second) (middle - 1) (to - 1)) rest
next rest joins at true first second from middle to a b apart =
    ap (λ k. kept (begun at k (from - 1) (to - 1)) rest)
    (begins_join (from - 1) (middle - 1) (to - 1) (omega (arith, a)) (omega (arith, b)))
    ∙ joins at (begins (from - 1) (middle - 1)) (begins (middle - 1) (to - 1)) (from - 1) (middle - 1) (to - 1) (omega (arith, a))
    (omega (arith, b)) (begins_apart (from - 1) (middle - 1) (to - 1) (omega (arith, a)))
next rest joins at false first second from middle to a b apart =
    joins at first second (from - 1) (middle - 1) (to - 1) (omega (arith, a)) (omega (arith, b))
    (λ e. let none = (apart e).1 in ((apart e).0, omega (arith, none)))

join : (bytes : List ℕ) → Joins bytes
unfolding kept
join [] at first second from middle to a b apart = refl
join (byte ∷ rest) at true true from middle to a b apart = absurd (true≢false (apart refl).0)
join (byte ∷ rest) at false true from middle to a b apart =
    let none : middle ≡ 0 = (apart refl).1 in
    let same : from ≡ middle = omega (arith, a, none) in
    ap (λ f. kept (begun at true f to) (byte ∷ rest)) same
    ∙ ap (λ xs. xs ++ kept (begun at true middle to) (byte ∷ rest))
    (sym (past_kept (begun at false from middle) (byte ∷ rest) refl none))
join (byte ∷ rest) at true false from middle to a b apart =
    ap (λ xs. byte ∷ xs)
    (next rest (join rest) (place_after at byte) (is_between (place_after at byte)) true false from middle to a b apart)
join (byte ∷ rest) at false false from middle to a b apart =
    next rest (join rest) (place_after at byte) (is_between (place_after at byte)) false false from middle to a b apart

pub ranges_join : (at : Place) (from middle to : ℕ) (bytes : List ℕ) → from ≤ middle → middle ≤ to
    → kept (begun at (begins from to) from to) bytes
    ≡ kept (begun at (begins from middle) from middle) bytes ++ kept (begun at (begins middle to) middle to) bytes
ranges_join at from middle to bytes a b =
    ap (λ k. kept (begun at k from to) bytes) (begins_join from middle to a b)
    ∙ join bytes at (begins from middle) (begins middle to) from middle to a b (begins_apart from middle to a)

-- ---- all bytes

all_kept : (at : Place) (bytes : List ℕ) (to : ℕ) → length bytes ≤ to → kept (begun at true 0 to) bytes ≡ bytes
unfolding kept
all_kept at [] to less = refl
all_kept at (byte ∷ rest) to less =
    ap (λ xs. byte ∷ xs) (by (is_between (place_after at byte)) rest (omega arith) (all_kept (place_after at byte) rest (to - 1) (omega arith)))
  where
    by : (b : Bool) (rest : List ℕ) → length rest ≤ to - 1 → kept (begun (place_after at byte) true 0 (to - 1)) rest ≡ rest
        → kept (begun (place_after at byte) (cond b (begins 0 (to - 1)) true) 0 (to - 1)) rest ≡ rest
    by false rest less more = more
    by true [] less more = kept_none (begun (place_after at byte) (begins 0 (to - 1)) 0 (to - 1))
    by true (x ∷ xs) less more =
        ap (λ k. kept (begun (place_after at byte) k 0 (to - 1)) (x ∷ xs)) (begins_now (to - 1) (omega (arith, less))) ∙ more

-- a range from the first byte to the last one or beyond it
pub ranges_have_all : (at : Place) (to : ℕ) (bytes : List ℕ) → length bytes ≤ to → kept (begun at (begins 0 to) 0 to) bytes ≡ bytes
ranges_have_all at to [] less = kept_none (begun at (begins 0 to) 0 to)
ranges_have_all at to (byte ∷ rest) less =
    ap (λ k. kept (begun at k 0 to) (byte ∷ rest)) (begins_now to (omega (arith, less))) ∙ all_kept at (byte ∷ rest) to less
