-- The places of the variables that pass a test, in the order of declaration.
use Rattle.std.proofs.Common.{◌≡◌, ℕ, zero, suc, ◌+◌, ◌<◌, ◌≤◌, Bool, true, false, not, nat_lt, if◌then◌else◌, List, [], ◌∷◌, ◌++◌, map}
use Rattle.std.proofs.{Common.{length, slice_index, refl, sym, ap, ◌∙◌, subst, arith, length-append}, lemmas.Bool.Decides.nat_tests}
use Rattle.std.proofs.lemmas.List.{get_or_append_left, get_or_push}
use Rattle.query_lang.specs.declared.fold.TypedFold.{TypedFold}
use Rattle.fold_class.specs.{Depth.is_history, Step.{rank, places}}

pub map_at : (g : ℕ → ℕ) (xs : List ℕ) (i : ℕ) → i < length xs → slice_index (map g xs) i ≡ g (slice_index xs i)
map_at g [] i h = absurd (omega arith)
map_at g (x ∷ xs) zero h = refl
map_at g (x ∷ xs) (suc i) h = map_at g xs i (omega arith)

pub length-map : (g : ℕ → ℕ) (xs : List ℕ) → length (map g xs) ≡ length xs
length-map g [] = refl
length-map g (x ∷ xs) = omega (arith, length-map g xs)

module _ (p : ℕ → Bool) where
  size_step : (b : Bool) (xs : List ℕ) (n : ℕ) → length (if b then xs ++ n ∷ [] else xs) ≡ length xs + (if b then 1 else 0)
  size_step true xs n = length-append xs (n ∷ [])
  size_step false xs n = omega arith

  -- fewer before than all
  pub places_more : (v n : ℕ) → v ≤ n → length (places p v) ≤ length (places p n)
  places_more v zero h = let e : v ≡ 0 = omega arith in omega (arith, ap (λ z. length (places p z)) e)
  places_more v (suc n) h = place (λ le. places_more v n le) (nat_lt v (suc n)) refl
    where
      place : (v ≤ n → length (places p v) ≤ length (places p n)) → (b : Bool) → nat_lt v (suc n) ≡ b
          → length (places p v) ≤ length (places p (suc n))
      place front true t = let le : v ≤ n = grind (arith, nat_tests) in omega (arith, front le, size_step (p n) (places p n) n)
      place front false t = let e : v ≡ suc n = grind (arith, nat_tests) in omega (arith, ap (λ z. length (places p z)) e)

  pub places_less : (v n : ℕ) → v < n → p v ≡ true → length (places p v) < length (places p n)
  places_less v n h e =
      let one : length (places p (suc v)) ≡ length (places p v) + 1 = size_step (p v) (places p v) v
      ∙ ap (λ b. length (places p v) + (if b then 1 else 0)) e in
      omega (arith, one, places_more (suc v) n (omega arith))

  pub places_most : (n : ℕ) → length (places p n) ≤ n
  places_most zero = omega arith
  places_most (suc n) = omega (arith, places_most n, size_step (p n) (places p n) n, most (p n))
    where
      most : (b : Bool) → (if b then 1 else 0) ≤ 1
      most true = omega arith
      most false = omega arith

  -- a variable stands at the place of its number among those that pass
  pub place_at : (v n : ℕ) → v < n → p v ≡ true → slice_index (places p n) (length (places p v)) ≡ v
  place_at v zero h e = absurd (omega arith)
  place_at v (suc n) h e = at (λ lt. place_at v n lt e) (λ lt. places_less v n lt e) (nat_lt v n) refl (p n) refl
    where
      at : (v < n → slice_index (places p n) (length (places p v)) ≡ v) → (v < n → length (places p v) < length (places p n)) → (l : Bool)
          → nat_lt v n ≡ l → (b : Bool) → p n ≡ b →
          slice_index (if b then places p n ++ n ∷ [] else places p n) (length (places p v)) ≡ v
      at front less true t true eb = let lt : v < n = grind (arith, nat_tests) in get_or_append_left (places p n) (n ∷ []) 0
          (length (places p v)) (less lt) ∙ front lt
      at front less true t false eb = let lt : v < n = grind (arith, nat_tests) in front lt
      at front less false t true eb = let same : v ≡ n = grind (arith, nat_tests) in get_or_push (places p n) n 0 (length (places p v))
          (ap (λ z. length (places p z)) (sym same)) ∙ sym same
      at front less false t false eb = let same : v ≡ n = grind (arith, nat_tests) in let e' : p n ≡ true =
          subst (λ z. p z ≡ true) same e in cc

  -- what stands at a place is a variable that passes
  pub record IsPlaced (n i : ℕ) : Type 0 where
    pub inside : slice_index (places p n) i < n
    pub passes : p (slice_index (places p n) i) ≡ true

  pub placed : (n i : ℕ) → i < length (places p n) → (slice_index (places p n) i < n) × (p (slice_index (places p n) i) ≡ true)
  placed zero i h = absurd (omega arith)
  placed (suc n) i h = at (λ lt. placed n i lt) (p n) refl h
    where
      at : (i < length (places p n) → (slice_index (places p n) i < n) × (p (slice_index (places p n) i) ≡ true)) → (b : Bool) → p n ≡ b
          → i < length (if b then places p n ++ n ∷ [] else places p n) →
          (slice_index (if b then places p n ++ n ∷ [] else places p n) i < suc n)
          × (p (slice_index (if b then places p n ++ n ∷ [] else places p n) i) ≡ true)
      at front false eb h = let r = front h in (omega (arith, r.0), r.1)
      at front true eb h = last (nat_lt i (length (places p n))) refl
        where
          last : (l : Bool) → nat_lt i (length (places p n)) ≡ l → (slice_index (places p n ++ n ∷ []) i < suc n)
              × (p (slice_index (places p n ++ n ∷ []) i) ≡ true)
          last true t =
              let lt : i < length (places p n) = grind (arith, nat_tests) in
              let e : slice_index (places p n ++ n ∷ []) i ≡ slice_index (places p n) i = get_or_append_left (places p n) (n ∷ []) 0 i lt in
              let r = front lt in
              (omega (arith, e, r.0), ap p e ∙ r.1)
          last false t =
              let ge : length (places p n) ≤ i = grind (arith, nat_tests) in
              let same : length (places p n) ≡ i = omega (arith, ge, h, length-append (places p n) (n ∷ [])) in
              let e : slice_index (places p n ++ n ∷ []) i ≡ n = get_or_push (places p n) n 0 i same in
              (omega (arith, e), ap p e ∙ eb)

-- a variable's rank is how many linear variables stand before it
pub rank_size : (f : TypedFold) (n : ℕ) → rank f n ≡ length (places (λ v. not (is_history f v)) n)
rank_size f zero = refl
rank_size f (suc n) = omega (arith, rank_size f n, step (is_history f n) (places (λ v. not (is_history f v)) n))
  where
    step : (b : Bool) (xs : List ℕ) → length (if not b then xs ++ n ∷ [] else xs) ≡ length xs + (if b then 0 else 1)
    step true xs = omega arith
    step false xs = length-append xs (n ∷ [])

-- each variable is linear or of the history
pub both_sorts : (q : ℕ → Bool) (n : ℕ) → length (places (λ v. not (q v)) n) + length (places q n) ≡ n
both_sorts q zero = refl
both_sorts q (suc n) = omega (arith, both_sorts q n, step (q n) (places (λ v. not (q v)) n) (places q n))
  where
    step : (b : Bool) (xs ys : List ℕ) → length (if not b then xs ++ n ∷ [] else xs) + length (if b then ys ++ n ∷ [] else ys) ≡ length xs
        + length ys + 1
    step true xs ys = omega (arith, length-append ys (n ∷ []))
    step false xs ys = omega (arith, length-append xs (n ∷ []))
