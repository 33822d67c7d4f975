-- Laws of depth and class, from those of single variables.
use Rattle.std.proofs.Common.{◌≡◌, ℕ, zero, suc, ◌+◌, ◌<◌, ◌≤◌, Bool, true, false, ◌||◌, nat_lt, if◌then◌else◌, List, length, slice_index}
use Rattle.std.proofs.{Common.{◌⊎◌, inl, inr, refl, sym, ap, ◌∙◌, subst, arith}, lemmas.{Bool.Decides.nat_tests, List.ext_get_or}}
use Rattle.query_lang.specs.declared.{fold.TypedFold.TypedFold, typed.Class.{Class, TheVariants.Linear}}
use Rattle.query_lang.specs.Folds.{IsValidFold, fold_states, folded}
use Rattle.fold_code.specs.Additive.{is_additive}
use Rattle.fold_class.specs.{declared.class.Algebra.TheVariants.{Sums, Maxima}, Depth.{is_history, IsDepth, least_from, depth_of}}
use Rattle.fold_class.specs.{Kinds.{fold_kinds, is_no_other, is_linear_by, class_of, algebra_of}, Step.{history_places, words_at}}
use Rattle.fold_class.proofs.{History.history_forgets, DepthLemmas.{all_true, is_covered, covered_last, depth_found, depth_below}}
use Rattle.fold_class.proofs.{HistoryKinds.history_pure, PlaceLemmas.{map_at, length-map, placed}}
use Rattle.fold_class.proofs.AdditiveLemmas.{additive_linear, additive_no_depth}

pub forgets : (f : TypedFold) (depth : ℕ) (xs ys : List ℕ) (rows : List (List ℕ)) → IsValidFold f → IsDepth f depth
    → length xs ≡ fold_states f → length ys ≡ fold_states f → depth ≤ length rows →
    words_at (folded f xs rows) (history_places f) ≡ words_at (folded f ys rows) (history_places f)
forgets f depth xs ys rows valid deep hx hy enough =
    let sx = slice_index (folded f xs rows) in
    let sy = slice_index (folded f ys rows) in
    ext_get_or 0 (words_at (folded f xs rows) (history_places f)) (words_at (folded f ys rows) (history_places f))
    (length-map sx (history_places f) ∙ sym (length-map sy (history_places f)))
    (λ i lt. one i (omega (arith, lt, length-map sx (history_places f))))
  where
    one : (i : ℕ) → i < length (history_places f) → slice_index (words_at (folded f xs rows) (history_places f)) i ≡ slice_index
        (words_at (folded f ys rows) (history_places f)) i
    one i h =
        let r = placed (is_history f) (fold_states f) i h in
        map_at (slice_index (folded f xs rows)) (history_places f) i h
        ∙ history_forgets f depth xs ys rows valid deep hx hy enough (slice_index (history_places f) i) r.0 (fold_states f, r.1)
        ∙ sym (map_at (slice_index (folded f ys rows)) (history_places f) i h)

pub additive_class : (f : TypedFold) → IsValidFold f → is_additive f ≡ true → class_of f ≡ Linear
additive_class f valid h = ap (λ b. if b || is_linear_by Maxima f then Linear else Class.Other) (additive_linear f valid h)

pub additive_algebra : (f : TypedFold) → IsValidFold f → is_additive f ≡ true → algebra_of f ≡ Sums
additive_algebra f valid h = ap (λ b. if b then Sums else (if is_linear_by Maxima f then Maxima else Sums)) (additive_linear f valid h)

pub additive_depth : (f : TypedFold) → IsValidFold f → is_additive f ≡ true → IsDepth f 0
additive_depth f valid h = record {
  enough = λ v lt w. let off = additive_no_depth f h w.0 v lt in let on = w.1 in cc;
  least = λ e all. omega arith;
}

not_before : (f : TypedFold) (d : ℕ) → is_covered f d ≡ false → ((e : ℕ) → e < d → is_covered f e ≡ false) → (e : ℕ) → e < suc d
    → is_covered f e ≡ false
not_before f d now before e lt = place (nat_lt e d) refl
  where
    place : (b : Bool) → nat_lt e d ≡ b → is_covered f e ≡ false
    place true t = let less : e < d = grind (arith, nat_tests) in before e less
    place false t = let same : d ≡ e = grind (arith, nat_tests) in subst (λ n. is_covered f n ≡ false) same now

-- the least number that is enough is a fold's depth
least_is : (f : TypedFold) (tries d : ℕ) → is_covered f (d + tries) ≡ true → ((e : ℕ) → e < d → is_covered f e ≡ false)
    → IsDepth f (least_from f tries d)
least_is f zero d now before = let z : d + 0 ≡ d = omega arith in depth_found f d (subst (λ n. is_covered f n ≡ true) z now) before
least_is f (suc tries) d now before = place (λ off. least_is f tries (suc d) (subst (λ n. is_covered f n ≡ true) z now)
    (not_before f d off before)) (is_covered f d) refl
  where
    z : d + suc tries ≡ suc d + tries
    z = omega arith

    place : (is_covered f d ≡ false → IsDepth f (least_from f tries (suc d))) → (b : Bool) → is_covered f d ≡ b
        → IsDepth f (if b then d else least_from f tries (suc d))
    place later true t = depth_found f d t before
    place later false t = later t

pub depth_found_is : (f : TypedFold) → IsDepth f (depth_of f)
depth_found_is f = least_is f (fold_states f) 0 (subst (λ n. is_covered f n ≡ true) z (covered_last f)) (λ e lt. absurd (omega arith))
  where
    z : fold_states f ≡ 0 + fold_states f
    z = omega arith

-- a fold has one depth
pub depth_is : (f : TypedFold) (d : ℕ) → IsDepth f d → d ≡ depth_of f
depth_is f d deep = let found = depth_found_is f in omega (arith, deep.least (depth_of f) found.enough, found.least d deep.enough)

-- where all variables pass a test or one fails
some_fails : (p : ℕ → Bool) (n : ℕ) → ((v : ℕ) → v < n → p v ≡ true) ⊎ ((v : ℕ) × (v < n) × (p v ≡ false))
some_fails p zero = inl (λ v lt. absurd (omega arith))
some_fails p (suc n) = both (some_fails p n) (p n) refl
  where
    both : ((v : ℕ) → v < n → p v ≡ true) ⊎ ((v : ℕ) × (v < n) × (p v ≡ false)) → (b : Bool) → p n ≡ b
        → ((v : ℕ) → v < suc n → p v ≡ true) ⊎ ((v : ℕ) × (v < suc n) × (p v ≡ false))
    both (inr r) b e = inr (r.0, omega (arith, r.1), r.2)
    both (inl all) false e = inr (n, omega arith, e)
    both (inl all) true e = inl (λ v lt. last v lt (nat_lt v n) refl)
      where
        last : (v : ℕ) → v < suc n → (l : Bool) → nat_lt v n ≡ l → p v ≡ true
        last v lt true t = let less : v < n = grind (arith, nat_tests) in all v less
        last v lt false t = let same : n ≡ v = grind (arith, nat_tests) in subst (λ m. p m ≡ true) same e

-- a fold all of whose variables have a depth is linear by sums
history_linear : (f : TypedFold) → ((v : ℕ) → v < fold_states f → is_history f v ≡ true) → is_linear_by Sums f ≡ true
history_linear f all = all_true (fold_states f) (λ v. is_no_other (fold_kinds Sums f v))
    (λ v lt. ap is_no_other (history_pure Sums f v (all v lt)))

-- a fold that is linear by maxima has a variable with no depth
pub maxima_depth : (f : TypedFold) (d : ℕ) → algebra_of f ≡ Maxima → IsDepth f d → d < fold_states f
maxima_depth f d e deep = pick (some_fails (is_history f) (fold_states f))
  where
    sums : is_linear_by Sums f ≡ true → (if is_linear_by Sums f then Sums else (if is_linear_by Maxima f then Maxima else Sums)) ≡ Sums
    sums t = ap (λ b. if b then Sums else (if is_linear_by Maxima f then Maxima else Sums)) t

    pick : ((v : ℕ) → v < fold_states f → is_history f v ≡ true) ⊎ ((v : ℕ) × (v < fold_states f) × (is_history f v ≡ false))
        → d < fold_states f
    pick (inl all) = let s = sums (history_linear f all) in cc
    pick (inr r) = depth_below f d r.0 r.1 r.2 deep
