-- One trace after the other: which stay as they were, and the counts of their faults.
use Rattle.std.proofs.Common.{◌≡◌, ℕ, zero, suc, ◌+◌, ◌<◌, ◌≤◌, List, [], ◌∷◌, drop, get_or, length, map, set, refl, sym, ap, subst, ◌∙◌}
use Rattle.std.proofs.{Common.{add-one, arith}, lemmas.List.{drop-set-lt, get_or-drop, get_or-map, get_or-set_same, length-map, map-set}}
use Rattle.marple_base.specs.{Faults.Rose, Inputs.Input, declared.inputs.Which.{Which, TheVariants.Trace}}
use Rattle.trace_split.{specs.Traces.{NoneFell, OneRose, faults_of}, proofs.RestFacts.rose_from}

-- a count that is set to no less
grows : (now : List ℕ) (i v n : ℕ) → get_or now i 0 ≤ v → get_or now n 0 ≤ get_or (set now i v) n 0
grows [] i v n more = omega arith
grows (x ∷ xs) zero v zero more = more
grows (x ∷ xs) zero v (suc n) more = omega arith
grows (x ∷ xs) (suc i) v zero more = omega arith
grows (x ∷ xs) (suc i) v (suc n) more = grows xs i v n more

module _ {T : Type 0} where
  drop_one : (i : ℕ) (xs : List T) → drop (suc i) xs ≡ drop 1 (drop i xs)
  drop_one zero xs = refl
  drop_one (suc i) [] = refl
  drop_one (suc i) (x ∷ xs) = drop_one i xs

  -- lists that are the same from here on have the same element here
  pub at_same : (i : ℕ) (xs ys : List T) (d : T) → drop i xs ≡ drop i ys → get_or xs i d ≡ get_or ys i d
  at_same i xs ys d same =
      let none : i + 0 ≡ i = omega arith in
      sym (ap (λ n. get_or xs n d) none) ∙ sym (get_or-drop i xs 0 d) ∙ ap (λ (zs : List T). get_or zs 0 d) same ∙ get_or-drop i ys 0 d
      ∙ ap (λ n. get_or ys n d) none

  -- and the same from the next on, also after one is changed here
  pub rest_same : (i : ℕ) (xs ys : List T) (x : T) → drop i xs ≡ drop i ys → drop (i + 1) (set xs i x) ≡ drop (i + 1) ys
  rest_same i xs ys x same =
      let next : i + 1 ≡ suc i = add-one i in
      drop-set-lt (i + 1) xs i x (omega arith) ∙ ap (λ n. drop n xs) next ∙ drop_one i xs ∙ ap (drop 1) same ∙ sym (drop_one i ys)
      ∙ ap (λ n. drop n ys) (sym next)

module _ {T : Type 0} (input : T → Which → Input) (first now : List T) (i : ℕ) (other new : T) (within : i < length now) where
  abbrev faults : T → ℕ
  faults trace = (input trace Trace).faults

  abbrev old : T
  old = get_or now i other

  here : get_or (faults_of input now) i 0 ≡ faults old
  here = get_or-map faults now i other 0 within

  after_it : get_or (faults_of input (set now i new)) i 0 ≡ faults new
  after_it =
      ap (λ (ns : List ℕ). get_or ns i 0) (map-set faults now i new)
      ∙ get_or-set_same (faults_of input now) i (faults new) 0 (omega (arith, within, length-map now faults))

  pub none_fell : NoneFell (faults_of input first) (faults_of input now) → faults old ≤ faults new
      → NoneFell (faults_of input first) (faults_of input (set now i new))
  none_fell before later n =
      let more = grows (faults_of input now) i (faults new) n (omega (arith, here, later)) in
      omega (arith, before n, more, ap (λ (ns : List ℕ). get_or ns n 0) (map-set faults now i new))

  pub one_rose : NoneFell (faults_of input first) (faults_of input now) → Rose (faults old) (faults new)
      → OneRose (faults_of input first) (faults_of input (set now i new))
  one_rose before rose = (
    i,
    subst (Rose (get_or (faults_of input first) i 0)) (sym after_it)
        (rose_from (get_or (faults_of input first) i 0) (faults old) (faults new) (omega (arith, before i, here)) rose),
  )
