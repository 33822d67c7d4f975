-- As many rounds as there are variables find each depth, and the number of the first round that covers the history is the fold's depth.
use Rattle.std.proofs.Common.{◌≡◌, ℕ, zero, suc, ◌+◌, ◌-◌, ◌<◌, ◌≤◌, Bool, true, false, not, ◌&&◌, ◌||◌, nat_lt, if◌then◌else◌, List, ◌⊎◌}
use Rattle.std.proofs.{Common.{inl, inr, refl, sym, ap, ◌∙◌, subst, arith}, lemmas.Bool.Decides.nat_tests}
use Rattle.query_lang.specs.{declared.fold.TypedFold.TypedFold, Folds.fold_states}
use Rattle.fold_class.specs.{Tables.all_below, Depth.{fold_reads, is_within, IsHistory, is_history, IsDepth}, Walk.flag_in}
use Rattle.fold_class.proofs.{TableLemmas.{implied, implies_more, below_at, below_more}, History.within_more}

pub all_same : (n : ℕ) (p q : ℕ → Bool) → ((u : ℕ) → u < n → p u ≡ q u) → all_below n p ≡ all_below n q
all_same zero p q h = refl
all_same (suc n) p q h = ap (λ z. z && p n) (all_same n p q (λ u lt. h u (omega arith))) ∙ ap (λ z. all_below n q && z) (h n (omega arith))

pub all_true : (n : ℕ) (p : ℕ → Bool) → ((u : ℕ) → u < n → p u ≡ true) → all_below n p ≡ true
all_true zero p h = refl
all_true (suc n) p h = ap (λ z. z && p n) (all_true n p (λ u lt. h u (omega arith))) ∙ h n (omega arith)

-- one more round
pub round_step : (f : TypedFold) (d : ℕ) (old new : List Bool) → ((v : ℕ) → v < fold_states f → flag_in old v ≡ is_within f d v) →
    ((v : ℕ) → v < fold_states f → flag_in new v ≡ all_below (fold_states f) (λ u. not (fold_reads f v u) || flag_in old u)) →
    (v : ℕ) → v < fold_states f → flag_in new v ≡ is_within f (d + 1) v
round_step f d old new was is v lt =
    let e : suc d ≡ d + 1 = omega arith in
    is v lt ∙ all_same (fold_states f) (λ u. not (fold_reads f v u) || flag_in old u) (λ u. not (fold_reads f v u) || is_within f d u)
    (λ u lu. ap (λ z. not (fold_reads f v u) || z) (was u lu)) ∙ ap (λ n. is_within f n v) e

-- how many of the first variables have a depth of d at most
abbrev count : TypedFold → ℕ → ℕ → ℕ
count f d zero = 0
count f d (suc n) = count f d n + (if is_within f d n then 1 else 0)

abbrev Stable : TypedFold → ℕ → Type 0
Stable f d = (v : ℕ) → v < fold_states f → is_within f (suc d) v ≡ true → is_within f d v ≡ true

one_if : (b c : Bool) → (b ≡ true → c ≡ true) → (if b then 1 else 0) ≤ (if c then 1 else 0)
one_if true c h = omega (arith, ap {B = ℕ} (λ z. if z then 1 else 0) (h refl))
one_if false c h = omega arith

at_most_one : (b : Bool) → (if b then 1 else 0) ≤ 1
at_most_one true = omega arith
at_most_one false = omega arith

count_most : (f : TypedFold) (d n : ℕ) → count f d n ≤ n
count_most f d zero = omega arith
count_most f d (suc n) = omega (arith, count_most f d n, at_most_one (is_within f d n))

count_grows : (f : TypedFold) (d n : ℕ) → count f d n ≤ count f (suc d) n
count_grows f d zero = omega arith
count_grows f d (suc n) =
    let e : d + 1 ≡ suc d = omega arith in
    omega (
      arith,
      count_grows f d n,
      one_if (is_within f d n) (is_within f (suc d) n) (λ w. subst (λ m. is_within f m n ≡ true) e (within_more f d 1 n w)),
    )

count_more : (f : TypedFold) (d n v : ℕ) → v < n → is_within f (suc d) v ≡ true → is_within f d v ≡ false → count f d n
    + 1 ≤ count f (suc d) n
count_more f d zero v h grown not_yet = absurd (omega arith)
count_more f d (suc n) v h grown not_yet = place (λ lt. count_more f d n v lt grown not_yet) (nat_lt v n) refl
  where
    place : (v < n → count f d n + 1 ≤ count f (suc d) n) → (b : Bool) → nat_lt v n ≡ b → count f d n + (if is_within f d n then 1 else 0)
        + 1 ≤ count f (suc d) n + (if is_within f (suc d) n then 1 else 0)
    place front true t =
        let lt : v < n = grind (arith, nat_tests) in
        let e : d + 1 ≡ suc d = omega arith in
        omega (
          arith,
          front lt,
          one_if (is_within f d n) (is_within f (suc d) n) (λ w. subst (λ m. is_within f m n ≡ true) e (within_more f d 1 n w)),
        )
    place front false t =
        let same : v ≡ n = grind (arith, nat_tests) in
        let a : (if is_within f d n then 1 else 0) ≡ 0 = ap {B = ℕ} (λ z. if z then 1 else 0)
        (subst (λ m. is_within f d m ≡ false) same not_yet) in
        let b : (if is_within f (suc d) n then 1 else 0) ≡ 1 = ap {B = ℕ} (λ z. if z then 1 else 0)
        (subst (λ m. is_within f (suc d) m ≡ true) same grown) in
        omega (arith, count_grows f d n, a, b)

-- a round adds no variable, or some variable
added : (p q : ℕ → Bool) (n : ℕ) → ((v : ℕ) → v < n → p v ≡ true → q v ≡ true) ⊎ ((v : ℕ) × (v < n) × (p v ≡ true) × (q v ≡ false))
added p q zero = inl (λ v h t. absurd (omega arith))
added p q (suc n) = both (added p q n) (p n) (q n) refl refl
  where
    both : ((v : ℕ) → v < n → p v ≡ true → q v ≡ true) ⊎ ((v : ℕ) × (v < n) × (p v ≡ true) × (q v ≡ false)) → (b c : Bool) → p n ≡ b
        → q n ≡ c → ((v : ℕ) → v < suc n → p v ≡ true → q v ≡ true) ⊎ ((v : ℕ) × (v < suc n) × (p v ≡ true) × (q v ≡ false))
    both (inr r) b c eb ec = inr (r.0, omega (arith, r.1), r.2, r.3)
    both (inl old) true false eb ec = inr (n, omega arith, eb, ec)
    both (inl old) b true eb ec = inl (λ v h t. last v h t (nat_lt v n) refl)
      where
        last : (v : ℕ) → v < suc n → p v ≡ true → (l : Bool) → nat_lt v n ≡ l → q v ≡ true
        last v h t true l = let lt : v < n = grind (arith, nat_tests) in old v lt t
        last v h t false l = let same : n ≡ v = grind (arith, nat_tests) in subst (λ m. q m ≡ true) same ec
    both (inl old) false false eb ec = inl (λ v h t. last v h t (nat_lt v n) refl)
      where
        last : (v : ℕ) → v < suc n → p v ≡ true → (l : Bool) → nat_lt v n ≡ l → q v ≡ true
        last v h t true l = let lt : v < n = grind (arith, nat_tests) in old v lt t
        last v h t false l = let same : v ≡ n = grind (arith, nat_tests) in let t' : p n ≡ true = subst (λ m. p m ≡ true) same t in cc

settles : (f : TypedFold) (d : ℕ) → ((e : ℕ) × (e < d) × Stable f e) ⊎ (d ≤ count f d (fold_states f))
settles f zero = inr (omega arith)
settles f (suc d) = next (settles f d) (added (is_within f (suc d)) (is_within f d) (fold_states f))
  where
    next : ((e : ℕ) × (e < d) × Stable f e) ⊎ (d ≤ count f d (fold_states f)) →
        Stable f d ⊎ ((v : ℕ) × (v < fold_states f) × (is_within f (suc d) v ≡ true) × (is_within f d v ≡ false)) →
        ((e : ℕ) × (e < suc d) × Stable f e) ⊎ (suc d ≤ count f (suc d) (fold_states f))
    next (inl r) s = inl (r.0, omega (arith, r.1), r.2)
    next (inr h) (inl s) = inl (d, omega arith, s)
    next (inr h) (inr r) = inr (omega (arith, h, count_more f d (fold_states f) r.0 r.1 r.2 r.3))

settled : (f : TypedFold) → (e : ℕ) × (e ≤ fold_states f) × Stable f e
settled f = pick (settles f (suc (fold_states f)))
  where
    pick : ((e : ℕ) × (e < suc (fold_states f)) × Stable f e) ⊎ (suc (fold_states f) ≤ count f (suc (fold_states f)) (fold_states f))
        → (e : ℕ) × (e ≤ fold_states f) × Stable f e
    pick (inl r) = (r.0, omega (arith, r.1), r.2)
    pick (inr h) = absurd (omega (arith, h, count_most f (suc (fold_states f)) (fold_states f)))

stable_next : (f : TypedFold) (d : ℕ) → Stable f d → Stable f (suc d)
stable_next f d s v lt w =
    below_more (fold_states f) (λ u. not (fold_reads f v u) || is_within f (suc d) u) (λ u. not (fold_reads f v u) || is_within f d u)
    (λ u lu t. implies_more (fold_reads f v u) (is_within f (suc d) u) (is_within f d u) (λ z. s u lu z) t) w

stays : (f : TypedFold) (e k : ℕ) → Stable f e → Stable f (e + k) × ((v : ℕ) → v < fold_states f → is_within f (e + k) v ≡ true
    → is_within f e v ≡ true)
stays f e zero s =
    let z : e ≡ e + 0 = omega arith in
    (subst (Stable f) z s, λ v lt w. subst (λ n. is_within f n v ≡ true) (sym z) w)
stays f e (suc k) s =
    let r = stays f e k s in
    let z : suc (e + k) ≡ e + suc k = omega arith in
    (subst (Stable f) z (stable_next f (e + k) r.0), λ v lt w. r.1 v lt (r.0 v lt (subst (λ n. is_within f n v ≡ true) (sym z) w)))

-- a variable that has a depth has one that is at most the number of variables
pub history_rounds : (f : TypedFold) (v : ℕ) → v < fold_states f → IsHistory f v → is_history f v ≡ true
history_rounds f v lt h = found (settled f)
  where
    up : (n : ℕ) → n ≤ fold_states f → is_within f n v ≡ true → is_history f v ≡ true
    up n le w = let z : n + (fold_states f - n) ≡ fold_states f = omega arith in subst (λ m. is_within f m v ≡ true) z
        (within_more f n (fold_states f - n) v w)

    found : (e : ℕ) × (e ≤ fold_states f) × Stable f e → is_history f v ≡ true
    found r = place (nat_lt h.0 r.0) refl
      where
        place : (b : Bool) → nat_lt h.0 r.0 ≡ b → is_history f v ≡ true
        place true t = let small : h.0 < r.0 = grind (arith, nat_tests) in up h.0 (omega (arith, r.1, small)) h.1
        place false t =
            let big : r.0 ≤ h.0 = grind (arith, nat_tests) in
            let z : h.0 ≡ r.0 + (h.0 - r.0) = omega arith in
            up r.0 r.1 ((stays f r.0 (h.0 - r.0) r.2).1 v lt (subst (λ n. is_within f n v ≡ true) z h.1))

-- all history variables are within d
abbrev pub is_covered : TypedFold → ℕ → Bool
is_covered f d = all_below (fold_states f) (λ v. not (is_history f v) || is_within f d v)

pub covered_by : (f : TypedFold) (d : ℕ) (history within : List Bool) (n : ℕ) (b : Bool) → n ≡ fold_states f
    → ((v : ℕ) → v < fold_states f → flag_in history v ≡ is_history f v)
    → ((v : ℕ) → v < fold_states f → flag_in within v ≡ is_within f d v) →
    b ≡ all_below n (λ v. not (flag_in history v) || flag_in within v) → is_covered f d ≡ b
covered_by f d history within n b en eh ew e = sym (e ∙ ap (λ m. all_below m (λ v. not (flag_in history v) || flag_in within v)) en
    ∙ all_same (fold_states f) (λ v. not (flag_in history v) || flag_in within v) (λ v. not (is_history f v) || is_within f d v)
    (λ v lt. ap (λ z. not z || flag_in within v) (eh v lt) ∙ ap (λ z. not (is_history f v) || z) (ew v lt)))

not_or_self : (b : Bool) → (not b || b) ≡ true
not_or_self true = refl
not_or_self false = refl

pub covered_last : (f : TypedFold) → is_covered f (fold_states f) ≡ true
covered_last f = all_true (fold_states f) (λ v. not (is_history f v) || is_within f (fold_states f) v)
    (λ v lt. not_or_self (is_history f v))

-- the first round that covers the history is the fold's depth
pub depth_found : (f : TypedFold) (d : ℕ) → is_covered f d ≡ true → ((e : ℕ) → e < d → is_covered f e ≡ false) → IsDepth f d
depth_found f d now before = record {
  enough = λ v lt h. implied (is_history f v) (is_within f d v) (below_at (fold_states f) (λ v. not (is_history f v) || is_within f d v) v
      lt now) (history_rounds f v lt h);
  least = λ e h. place e h (nat_lt e d) refl;
}
  where
    within_or : (e v : ℕ) (b : Bool) → is_history f v ≡ b → (is_history f v ≡ true → is_within f e v ≡ true)
        → (not b || is_within f e v) ≡ true
    within_or e v true eb h = h eb
    within_or e v false eb h = refl

    place : (e : ℕ) → ((v : ℕ) → v < fold_states f → IsHistory f v → is_within f e v ≡ true) → (b : Bool) → nat_lt e d ≡ b → d ≤ e
    place e h false t = grind (arith, nat_tests)
    place e h true t =
        let lt : e < d = grind (arith, nat_tests) in
        let all : is_covered f e ≡ true = all_true (fold_states f) (λ v. not (is_history f v) || is_within f e v)
        (λ v lv. within_or e v (is_history f v) refl (λ w. h v lv (fold_states f, w))) in
        let off = before e lt in
        cc

-- where some variable is not within d, fewer are than all
count_less : (f : TypedFold) (d n v : ℕ) → v < n → is_within f d v ≡ false → count f d n + 1 ≤ n
count_less f d zero v h off = absurd (omega arith)
count_less f d (suc n) v h off = place (λ lt. count_less f d n v lt off) (nat_lt v n) refl
  where
    place : (v < n → count f d n + 1 ≤ n) → (b : Bool) → nat_lt v n ≡ b → count f d n + (if is_within f d n then 1 else 0) + 1 ≤ suc n
    place front true t = let lt : v < n = grind (arith, nat_tests) in omega (arith, front lt, at_most_one (is_within f d n))
    place front false t =
        let same : v ≡ n = grind (arith, nat_tests) in
        let none : (if is_within f d n then 1 else 0) ≡ 0 = ap {B = ℕ} (λ z. if z then 1 else 0)
        (subst (λ m. is_within f d m ≡ false) same off) in
        omega (arith, count_most f d n, none)

-- where some variable has no depth, the fold is less deep than it has variables
pub depth_below : (f : TypedFold) (d v : ℕ) → v < fold_states f → is_history f v ≡ false → IsDepth f d → d < fold_states f
depth_below f d v lt off deep = pick (settles f (fold_states f))
  where
    pick : ((e : ℕ) × (e < fold_states f) × Stable f e) ⊎ (fold_states f ≤ count f (fold_states f) (fold_states f)) → d < fold_states f
    pick (inr h) = absurd (omega (arith, h, count_less f (fold_states f) (fold_states f) v lt off))
    pick (inl r) =
        let z : r.0 + (fold_states f - r.0) ≡ fold_states f = omega (arith, r.1) in
        let all : (u : ℕ) → u < fold_states f → IsHistory f u → is_within f r.0 u ≡ true =
        λ u lu h. (stays f r.0 (fold_states f - r.0) r.2).1 u lu (subst (λ m. is_within f m u ≡ true) (sym z) (history_rounds f u lu h)) in
        omega (arith, deep.least r.0 all, r.1)
