-- Times at which the packets of a queue leave.
use Rattle.std.proofs.Common.{◌≡◌, ℕ, suc, ◌<◌, ◌≤◌, Bool, true, false, List, [], ◌∷◌, ◌++◌, length, get_or, drop, refl, sym, ap, ◌∙◌}
use Rattle.std.{proofs.{Common.arith, lemmas.Bool.Decides.nat_tests}, specs.Prelude.nat_lt}
use Rattle.queue_sim.specs.{Generator.still_there, Queue.Climbs}

pub by_test : {P : Type 0} (t : Bool) → (t ≡ true → P) → (t ≡ false → P) → P
by_test true so not_so = so refl
by_test false so not_so = not_so refl

-- all leave later, where the first does
pub all_later : (now x top : ℕ) (xs : List ℕ) → now < x → Climbs (x ∷ xs) top → still_there now (x ∷ xs) ≡ length (x ∷ xs)
all_later now x top [] later up =
    let test : nat_lt now x ≡ true = grind (arith, nat_tests) in
    rw test refl
all_later now x top (y ∷ xs) later up =
    let test : nat_lt now x ≡ true = grind (arith, nat_tests) in
    let more = all_later now y top xs (omega (arith, up.0)) up.1 in
    rw test (ap suc more)

-- one that has left isn't counted
pub left_already : (time x : ℕ) (xs : List ℕ) → x ≤ time → still_there time (x ∷ xs) ≡ still_there time xs
left_already time x xs past =
    let test : nat_lt time x ≡ false = grind (arith, nat_tests) in
    rw test refl

pub front_is : (xs : List ℕ) (x : ℕ) → x ≡ get_or xs 0 x → 0 < length xs → xs ≡ x ∷ drop 1 xs
front_is [] x here some = absurd (omega arith)
front_is (y ∷ xs) x here some = rw here refl

-- without the first one
pub climbs_rest : (x top : ℕ) (xs rest : List ℕ) → xs ≡ x ∷ rest → Climbs xs top → Climbs rest top
climbs_rest x top xs rest is up = (rw is at up).1

pub still_rest : (time x : ℕ) (xs rest : List ℕ) → xs ≡ x ∷ rest → x ≤ time → still_there time rest ≡ still_there time xs
still_rest time x xs rest is past = rw is (sym (left_already time x rest past))

pub all_by_first : (now x top : ℕ) (xs rest : List ℕ) → xs ≡ x ∷ rest → now < x → Climbs xs top → still_there now xs ≡ length xs
all_by_first now x top xs rest is later up = rw is (all_later now x top rest later (rw is at up))

-- one more at the end
pub climbs_push : (xs : List ℕ) (top x : ℕ) → Climbs xs top → top ≤ x → Climbs (xs ++ x ∷ []) x
climbs_push [] top x up more = (omega arith, tt)
climbs_push (y ∷ []) top x up more = (omega (arith, up.0), (omega arith, tt))
climbs_push (y ∷ z ∷ xs) top x up more = (up.0, climbs_push (z ∷ xs) top x up.1 more)

pub still_push : (time : ℕ) (xs : List ℕ) (x : ℕ) → still_there time (xs ++ x ∷ []) ≡ still_there time (x ∷ xs)
still_push time [] x = refl
still_push time (y ∷ xs) x =
    let more = still_push time xs x in
    by_test (nat_lt time y)
    (λ later. by_test (nat_lt time x) (λ also. rw (later, also) (omega (arith, rw also at more)))
    (λ not_so. rw (later, not_so) (omega (arith, rw not_so at more))))
    (λ past. by_test (nat_lt time x) (λ also. rw (past, also) (rw also at more)) (λ not_so. rw (past, not_so) (rw not_so at more)))

-- one more, which is listed first among those that were accepted
pub still_more : (xs touts : List ℕ) (later x : ℕ) → still_there later xs ≡ still_there later touts
    → still_there later (xs ++ x ∷ []) ≡ still_there later (x ∷ touts)
still_more xs touts later x same = still_push later xs x ∙ by_test (nat_lt later x) (λ also. rw also (ap suc same))
    (λ not_so. rw not_so same)
