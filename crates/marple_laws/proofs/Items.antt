-- Items that are new after others, and checks in sequence.
use Rattle.marple_laws.proofs.Words
use Words.{◌≡◌, ℕ, zero, suc, Bool, true, false, ◌||◌, List, [], ◌∷◌, ◌++◌, Some, Ok, Err, refl, sym, ap, subst, ◌∙◌, inl, inr, ◌⊎◌, arith}
use Words.{nat_eq, append_assoc, append-nil, Contains, Span, Checked, and_then, must, must_not, is_among, AreNew}
use Rattle.marple_laws.proofs.Differ.{AreApart}
use Rattle.std.specs.Prelude.{map, slice_get}
use Rattle.query_lang.specs.declared.fault.FaultKind.{FaultKind}

pub must_ok : {A : Type 0} (test : Bool) (kind : FaultKind) (span : Span) {next : Checked A} (x : A) → must test kind span next ≡ Ok x
    → (test ≡ true) × (next ≡ Ok x)
must_ok true kind span x e = (refl, e)
must_ok false kind span x e = cc

pub must_not_ok : {A : Type 0} (test : Bool) (kind : FaultKind) (span : Span) (next : Checked A) {x : A}
    → must_not test kind span next ≡ Ok x → (test ≡ false) × (next ≡ Ok x)
must_not_ok false kind span next e = (refl, e)
must_not_ok true kind span next e = cc

pub found_first : {A B : Type 0} (first : Checked A) {next : A → Checked B} {y : B} → and_then first next ≡ Ok y → (x : A) × (first ≡ Ok x)
    × (next x ≡ Ok y)
found_first (Ok x) e = (x, refl, e)
found_first (Err fault) e = cc

pub same_ok : {A : Type 0} {x y : A} → (let r : Checked A = Ok x in r) ≡ Ok y → x ≡ y
same_ok e = cc

-- an item of a list
abbrev pub IsIn : {A : Type 0} → A → List A → Type 0
IsIn x [] = ⊥
IsIn x (y ∷ ys) = (x ≡ y) ⊎ IsIn x ys

pub contains_in : {A : Type 0} (xs : List A) {x : A} → Contains xs x → IsIn x xs
contains_in [] (k, lt, e) = absurd (omega arith)
contains_in (y ∷ xs) (zero, lt, e) = inl (sym e)
contains_in (y ∷ xs) (suc k, lt, e) = inr (contains_in xs (k, omega (arith, lt), e))

pub in_at : {A : Type 0} (xs : List A) (i : ℕ) (x : A) → slice_get xs i ≡ Some x → IsIn x xs
in_at [] i x e = cc
in_at (y ∷ xs) zero x e = inl (let s : y ≡ x = cc in sym s)
in_at (y ∷ xs) (suc i) x e = inr (in_at xs i x e)

-- what an item of a mapped list was
pub mapped_at : {A B : Type 0} (f : A → B) (xs : List A) (k : ℕ) (y : B) → slice_get (map f xs) k ≡ Some y
    → (x : A) × (slice_get xs k ≡ Some x) × (f x ≡ y)
mapped_at f [] k y e = cc
mapped_at f (x ∷ xs) zero y e = (x, refl, cc)
mapped_at f (x ∷ xs) (suc k) y e = mapped_at f xs k y e

pub in_push : {A : Type 0} (xs : List A) (y x : A) → IsIn x (xs ++ y ∷ []) → IsIn x xs ⊎ (x ≡ y)
in_push [] y x (inl e) = inr e
in_push [] y x (inr h) = absurd h
in_push (z ∷ xs) y x (inl e) = inl (inl e)
in_push (z ∷ xs) y x (inr h) = elim (in_push xs y x h) [ inl i ↦ inl (inr i) | inr e ↦ inr e ]

pub in_left : {A : Type 0} (x : A) (xs ys : List A) → IsIn x xs → IsIn x (xs ++ ys)
in_left x [] ys h = absurd h
in_left x (y ∷ xs) ys (inl e) = inl e
in_left x (y ∷ xs) ys (inr h) = inr (in_left x xs ys h)

pub in_right : {A : Type 0} (x : A) (xs ys : List A) → IsIn x ys → IsIn x (xs ++ ys)
in_right x [] ys h = h
in_right x (y ∷ xs) ys h = inr (in_right x xs ys h)

pub in_last : {A : Type 0} (xs : List A) (x : A) → IsIn x (xs ++ x ∷ [])
in_last xs x = in_right x xs (x ∷ []) (inl refl)

pub among_in : (names : List ℕ) (id : ℕ) → IsIn id names → is_among id names ≡ true
among_in [] id h = absurd h
among_in (name ∷ names) id (inl e) = let t : nat_eq name id ≡ true = grind arith in ap (λ b. b || is_among id names) t
among_in (name ∷ names) id (inr h) = ap (λ b. nat_eq name id || b) (among_in names id h) ∙ either _
  where
    either : (b : Bool) → (b || true) ≡ true
    either true = refl
    either false = refl

pub not_among : (names : List ℕ) (id : ℕ) → is_among id names ≡ false → Contains names id → ⊥
not_among names id none c = let t = among_in _ _ (contains_in _ c) in cc

pub not_in : (names : List ℕ) (id : ℕ) → is_among id names ≡ false → IsIn id names → ⊥
not_in names id none c = let t = among_in _ _ c in cc

-- one more item after others
pub new_push : {A : Type 0} (before items : List A) (item : A) → AreNew before items → (IsIn item (before ++ items) → ⊥)
    → AreNew before (items ++ item ∷ [])
new_push before [] item new none = (λ c. none (subst (IsIn item) (sym (append-nil before)) (contains_in before c)), tt)
new_push before (one ∷ items) item new none = (
  new.0,
  new_push (before ++ one ∷ []) items item new.1 (λ h. none (subst (IsIn item) (append_assoc before (one ∷ []) items) h)),
)

pub apart_from : (keys states : List ℕ) → ((s : ℕ) → IsIn s states → is_among s keys ≡ false) → AreApart keys states
apart_from keys [] h = tt
apart_from keys (s ∷ states) h = (not_among keys s (h s (inl refl)), apart_from keys states (λ t i. h t (inr i)))
