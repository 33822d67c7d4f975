-- Lists that belong together, item by item.
use Rattle.std.proofs.Common.{◌≡◌, ℕ, zero, suc, ◌+◌, ◌<◌, ◌≤◌, List, [], ◌∷◌, Some, length, take, set, get_or, refl, sym, ap, ◌∙◌, subst}
use Rattle.std.{proofs.{Common.arith, lemmas.List.{take_all, Sums.sum_by-cons}}, specs.{List.{All, sum_by}, Prelude.slice_get}}
use Rattle.switch_core.specs.Rows.{EachFrom}

pub same_some : {X : Type 0} (x y : X) → Some x ≡ Some y → x ≡ y
same_some x y e = cc

pub got_some : {X : Type 0} (xs : List X) (i : ℕ) → i < length xs → (x : X) × (slice_get xs i ≡ Some x)
got_some [] i h = absurd (omega arith)
got_some (x ∷ xs) zero h = (x, refl)
got_some (x ∷ xs) (suc i) h = got_some xs i (omega arith)

pub got_here : {X : Type 0} (xs : List X) (i : ℕ) (d : X) → i < length xs → slice_get xs i ≡ Some (get_or xs i d)
got_here [] i d h = absurd (omega arith)
got_here (x ∷ xs) zero d h = refl
got_here (x ∷ xs) (suc i) d h = got_here xs i d (omega arith)

pub got_below : {X : Type 0} (xs : List X) (i : ℕ) (x : X) → slice_get xs i ≡ Some x → i < length xs
got_below [] i x h = cc
got_below (y ∷ xs) zero x h = omega arith
got_below (y ∷ xs) (suc i) x h = let r = got_below xs i x h in omega arith

-- what holds of all items holds of the one at a place
pub all_got : {X : Type 0} (P : X → Type 0) (xs : List X) (i : ℕ) (x : X) → All P xs → slice_get xs i ≡ Some x → P x
all_got P xs i x all here =
    let within = got_below xs i x here in
    subst P (same_some _ x (sym (got_here xs i x within) ∙ here)) (all i x within)

pub each_long : {X Y : Type 0} (R : ℕ → X → Y → Type 0) (k : ℕ) (xs : List X) (ys : List Y) → EachFrom R k xs ys → length xs ≡ length ys
each_long R k [] [] e = refl
each_long R k [] (y ∷ ys) e = absurd e
each_long R k (x ∷ xs) [] e = absurd e
each_long R k (x ∷ xs) (y ∷ ys) e = ap (λ n. suc n) (each_long R (suc k) xs ys e.1)

-- what is said of each pair can be said in another way
pub each_map : {X Y : Type 0} (R S : ℕ → X → Y → Type 0) (k : ℕ) (xs : List X) (ys : List Y)
    → ((j n : ℕ) (x : X) (y : Y) → n ≡ k + j → slice_get xs j ≡ Some x → slice_get ys j ≡ Some y → R n x y → S n x y) → EachFrom R k xs ys
    → EachFrom S k xs ys
each_map R S k [] [] h e = tt
each_map R S k [] (y ∷ ys) h e = absurd e
each_map R S k (x ∷ xs) [] h e = absurd e
each_map R S k (x ∷ xs) (y ∷ ys) h e =
    (h 0 k x y (omega arith) refl refl e.0, each_map R S (suc k) xs ys (λ j n a b q f g r. h (suc j) n a b (omega arith) f g r) e.1)

-- the item that belongs to one
pub each_at : {X Y : Type 0} (R : ℕ → X → Y → Type 0) (k i : ℕ) (xs : List X) (ys : List Y) (x : X) → EachFrom R k xs ys
    → slice_get xs i ≡ Some x
    → (y : Y) × (slice_get ys i ≡ Some y) × ((n : ℕ) → n ≡ k + i → R n x y)
each_at {X = X} R k i [] ys x e h = absurd (none i x h)
  where
    none : (i : ℕ) (x : X) → slice_get {X = X} [] i ≡ Some x → ⊥
    none i x h = cc
each_at R k i (a ∷ xs) [] x e h = absurd e
each_at R k zero (a ∷ xs) (b ∷ ys) x e h = let same : a ≡ x = cc in (
  b,
  refl,
  λ n q. let is : k ≡ n =
      omega arith in rw is at (subst (λ z. R k z b) same e.0),
)
each_at R k (suc i) (a ∷ xs) (b ∷ ys) x e h = let rest = each_at R _ i xs ys x e.1 h
    in (rest.0, rest.1, λ n q. rest.2 n (omega arith))

-- one of the items is another one
pub each_set : {X Y : Type 0} (R S : ℕ → X → Y → Type 0) (k i : ℕ) (xs : List X) (ys : List Y) (new : Y)
    → ((j n : ℕ) (x : X) (y : Y) → n ≡ k + j → (j ≡ i → ⊥) → R n x y → S n x y)
    → ((n : ℕ) (x : X) → n ≡ k + i → slice_get xs i ≡ Some x → S n x new) → EachFrom R k xs ys → EachFrom S k xs (set ys i new)
each_set R S k i [] [] new h here e = tt
each_set R S k i [] (y ∷ ys) new h here e = absurd e
each_set R S k i (x ∷ xs) [] new h here e = absurd e
each_set R S k zero (x ∷ xs) (y ∷ ys) new h here e = (
  here k x (omega arith) refl,
  each_map R S (suc k) xs ys (λ j n a b q f g r. h (suc j) n a b (omega arith)
      (λ z. absurd (let w : suc j ≡ 0 = z in omega arith)) r) e.1,
)
each_set R S k (suc i) (x ∷ xs) (y ∷ ys) new h here e = (
  h 0 k x y (omega arith) (λ z. absurd (let w : 0 ≡ suc i = z in omega arith)) e.0,
  each_set R S (suc k) i xs ys new (λ j n a b q d r. h (suc j) n a b (omega arith) (λ z. d (let w : suc j ≡ suc i = z in omega arith)) r)
      (λ n a q f. here n a (omega arith) f) e.1,
)

-- a loop over the items: those below a number are done, and those from there on are unchanged

abbrev pub Done : {X : Type 0} → (ℕ → X → X → Type 0) → ℕ → List X → List X → Type 0
Done R i old new = EachFrom (λ n a b. n < i → R n a b) 0 old new

abbrev pub Untouched : {X : Type 0} → ℕ → List X → List X → Type 0
Untouched i old new = EachFrom (λ n a b. i ≤ n → b ≡ a) 0 old new

pub done_start : {X : Type 0} (R : ℕ → X → X → Type 0) (k : ℕ) (xs : List X) → EachFrom (λ n a b. n < 0 → R n a b) k xs xs
done_start R k [] = tt
done_start R k (x ∷ xs) = (λ h. absurd (omega arith), done_start R (suc k) xs)

pub untouched_start : {X : Type 0} (i k : ℕ) (xs : List X) → EachFrom (λ n a b. i ≤ n → b ≡ a) k xs xs
untouched_start i k [] = tt
untouched_start i k (x ∷ xs) = (λ h. refl, untouched_start i (suc k) xs)

pub done_next : {X : Type 0} (R : ℕ → X → X → Type 0) (i : ℕ) (old new : List X) (item : X) → Done R i old new
    → ((x : X) → slice_get old i ≡ Some x → R i x item) → Done R (i + 1) old (set new i item)
done_next R i old new item d h = each_set _ _ 0 i _ _ _
    (λ j n a b q apart r less. r (let w : n ≡ i → ⊥ = λ z. apart (omega arith) in omega arith))
    (λ n x q f less. let is : i ≡ n = omega arith in rw is at (h x f)) d

-- the same, where what was there is known
pub done_here : {X : Type 0} (R : ℕ → X → X → Type 0) (i : ℕ) (old new : List X) (was item : X) → Done R i old new
    → slice_get old i ≡ Some was → R i was item → Done R (i + 1) old (set new i item)
done_here R i old new was item d here made = done_next R i old new item d
    (λ x e. subst (λ y. R i y item) (same_some was x (sym here ∙ e)) made)

pub untouched_next : {X : Type 0} (i : ℕ) (old new : List X) (item : X) → Untouched i old new → Untouched (i + 1) old (set new i item)
untouched_next i old new item u = each_set _ _ 0 i _ _ _
    (λ j n a b q apart r less. r (omega arith))
    (λ n x q f less. absurd (omega arith)) u

pub untouched_at : {X : Type 0} (i : ℕ) (old new : List X) (x : X) → Untouched i old new → slice_get old i ≡ Some x
    → slice_get new i ≡ Some x
untouched_at i old new x u e = let y = each_at (λ n a b. i ≤ n → b ≡ a) 0 i old new x u e in y.1
    ∙ ap Some (y.2 i (omega arith) (omega arith))

-- the item at a place that is untouched was there before
pub untouched_was : {X : Type 0} (i : ℕ) (old new : List X) (x : X) → Untouched i old new → i < length old → slice_get new i ≡ Some x
    → slice_get old i ≡ Some x
untouched_was i old new x u l e =
    let was = got_some old i l in
    was.1 ∙ ap Some (same_some _ x (sym (untouched_at i _ _ _ u was.1) ∙ e))

-- the item of a turn is the one that was there
pub was_there : {X : Type 0} (i : ℕ) (old new : List X) (d : X) → Untouched i old new → i < length old → length new ≡ length old
    → slice_get old i ≡ Some (get_or new i d)
was_there i old new d u below long = untouched_was i old new _ u below (got_here new i d (omega arith))

pub done_end : {X : Type 0} (R : ℕ → X → X → Type 0) (i : ℕ) (old new : List X) → Done R i old new → length old ≤ i → EachFrom R 0 old new
done_end R i old new d l = each_map _ R 0 _ _
    (λ j n a b q f g r. r (let w = got_below _ j a f in omega arith)) d

pub each_both : {X Y : Type 0} (R S : ℕ → X → Y → Type 0) (k : ℕ) (xs : List X) (ys : List Y) → EachFrom R k xs ys → EachFrom S k xs ys
    → EachFrom (λ n x y. R n x y × S n x y) k xs ys
each_both R S k [] [] r s = tt
each_both R S k [] (y ∷ ys) r s = absurd r
each_both R S k (x ∷ xs) [] r s = absurd r
each_both R S k (x ∷ xs) (y ∷ ys) r s = ((r.0, s.0), each_both R S (suc k) xs ys r.1 s.1)

-- the sum over one item more
pub sum_next : {X : Type 0} (f : X → ℕ) (xs : List X) (i : ℕ) (x : X) → slice_get xs i ≡ Some x
    → sum_by f (take (i + 1) xs) ≡ sum_by f (take i xs) + f x
sum_next {X = X} f xs i x h = ap (λ n. sum_by f (take n xs)) (let e : i + 1 ≡ suc i = omega arith in e) ∙ one_more f xs i x h
  where
    one_more : (f : X → ℕ) (xs : List X) (i : ℕ) (x : X) → slice_get xs i ≡ Some x → sum_by f (take (suc i) xs) ≡ sum_by f (take i xs) + f x
    one_more f [] i x h = cc
    one_more f (a ∷ xs) zero x h = let same : a ≡ x = cc in ap (λ z. sum_by f (z ∷ [])) same
        ∙ (sum_by-cons f x [] ∙ (let e : f x + 0 ≡ 0 + f x = omega arith in e))
    one_more f (a ∷ xs) (suc i) x h =
        sum_by-cons f a (take (suc i) _) ∙ (ap (λ n. f a + n) (one_more f xs i x h)
        ∙ (let e : f a + (sum_by f (take i xs) + f x) ≡ (f a + sum_by f (take i xs)) + f x = omega arith in e
        ∙ ap (λ n. n + f x) (sym (sum_by-cons f a (take i _)))))

-- the sum over the first items is that over all, where there are no more
pub sum_whole : {X : Type 0} (f : X → ℕ) (xs : List X) (i old new : ℕ) → length xs ≤ i → new ≤ old + sum_by f (take i xs)
    → new ≤ old + sum_by f xs
sum_whole f xs i old new long few = rw (take_all i xs long) at few
