-- Facts that are decided by their parts.
use Rattle.marple_laws.proofs.Words
use Words.{◌≡◌, ℕ, zero, suc, ◌<◌, ◌≤◌, Bool, true, false, List, [], ◌∷◌, length, Option, Some, None, refl, inl, inr, arith, slice_index_or}
use Words.{cases_eq, cases_lt}
use Rattle.std.specs.Prelude.{◌⊎◌, Contains}

abbrev pub Decided : Type 0 → Type 0
Decided A = A ⊎ (A → ⊥)

pub both : {A B : Type 0} → Decided A → Decided B → Decided (A × B)
both (inl a) (inl b) = inl (a, b)
both (inl a) (inr b) = inr (λ p. b p.1)
both (inr a) b = inr (λ p. a p.0)

pub either : {A B : Type 0} → Decided A → Decided B → Decided (A ⊎ B)
either (inl a) b = inl (inl a)
either (inr a) (inl b) = inl (inr b)
either {A} {B} (inr a) (inr b) = inr no
  where
    no : A ⊎ B → ⊥
    no (inl p) = a p
    no (inr q) = b q

pub neither : {A : Type 0} → Decided A → Decided (A → ⊥)
neither (inl a) = inr (λ no. no a)
neither (inr a) = inl a

-- a fact that is equivalent to one that is decided
pub by_both : {A B : Type 0} → (A → B) → (B → A) → Decided A → Decided B
by_both to back (inl a) = inl (to a)
by_both to back (inr a) = inr (λ b. a (back b))

-- what needs something that is decided is decided by what it says of that
pub from_found : {A B : Type 0} → (B → A) → ((a : A) → Decided B) → Decided A → Decided B
from_found need by (inl a) = by a
from_found need by (inr none) = inr (λ b. none (need b))

pub less : (m n : ℕ) → Decided (m < n)
less m n = elim (cases_lt m n) [ inl lt ↦ inl lt | inr le ↦ inr (λ lt. omega arith) ]

pub most : (m n : ℕ) → Decided (m ≤ n)
most m n = elim (cases_lt n m) [ inl lt ↦ inr (λ le. omega arith) | inr le ↦ inl le ]

pub same_number : (m n : ℕ) → Decided (m ≡ n)
same_number m n = cases_eq m n

pub is_true : (b : Bool) → Decided (b ≡ true)
is_true true = inl refl
is_true false = inr (λ e. cc)

pub is_false : (b : Bool) → Decided (b ≡ false)
is_false true = inr (λ e. cc)
is_false false = inl refl

pub is_none : {A : Type 0} (o : Option A) → Decided (o ≡ None)
is_none None = inl refl
is_none (Some a) = inr (λ e. cc)

pub is_empty : {A : Type 0} (xs : List A) → Decided (xs ≡ [])
is_empty [] = inl refl
is_empty (x ∷ xs) = inr (λ e. cc)

-- lists are the same where their items are
pub same_list : {A : Type 0} → ((a b : A) → Decided (a ≡ b)) → (xs ys : List A) → Decided (xs ≡ ys)
same_list same [] [] = inl refl
same_list same [] (y ∷ ys) = inr (λ e. cc)
same_list same (x ∷ xs) [] = inr (λ e. cc)
same_list same (x ∷ xs) (y ∷ ys) = by (same x y) (same_list same xs ys)
  where
    by : Decided (x ≡ y) → Decided (xs ≡ ys) → Decided (x ∷ xs ≡ y ∷ ys)
    by (inl e) (inl f) = inl cc
    by (inl e) (inr f) = inr (λ g. f cc)
    by (inr e) f = inr (λ g. e cc)

pub same_text : (a b : List ℕ) → Decided (a ≡ b)
same_text = same_list same_number

pub same_texts : (a b : List (List ℕ)) → Decided (a ≡ b)
same_texts = same_list same_text

pub contains : {A : Type 0} → ((a b : A) → Decided (a ≡ b)) → (xs : List A) {x : A} → Decided (Contains xs x)
contains same [] = inr (λ c. omega (arith, c.1))
contains same (y ∷ xs) {x} = by (same y x) (contains same xs)
  where
    none : (y ≡ x → ⊥) → (Contains xs x → ⊥) → (k : ℕ) → k < length (y ∷ xs) → slice_index_or (y ∷ xs) k x ≡ x → ⊥
    none not rest zero lt e = not e
    none not rest (suc k) lt e = rest (k, omega (arith, lt), e)

    by : Decided (y ≡ x) → Decided (Contains xs x) → Decided (Contains (y ∷ xs) x)
    by (inl e) rest = inl (0, omega arith, e)
    by (inr not) (inl c) = inl (suc c.0, (let lt = c.1 in omega arith), c.2)
    by (inr not) (inr absent) = inr (λ c. none not absent c.0 c.1 c.2)

-- a list of this many tokens
pub two_tokens : (ts : List (List ℕ)) → Decided ((a : List ℕ) × (b : List ℕ) × (ts ≡ a ∷ b ∷ []))
two_tokens (a ∷ b ∷ []) = inl (a, b, refl)
two_tokens _ = inr (λ p. (let e = p.2 in cc))

pub three_tokens : (ts : List (List ℕ)) → Decided ((a : List ℕ) × (b : List ℕ) × (c : List ℕ) × (ts ≡ a ∷ b ∷ c ∷ []))
three_tokens (a ∷ b ∷ c ∷ []) = inl (a, b, c, refl)
three_tokens _ = inr (λ p. (let e = p.3 in cc))

-- the tokens of a line are the same, however they are found
pub two_same : {ts : List (List ℕ)} {a b x y : List ℕ} → ts ≡ a ∷ b ∷ [] → ts ≡ x ∷ y ∷ [] → (a ≡ x) × (b ≡ y)
two_same e f = ((cc), (cc))

pub three_same : {ts : List (List ℕ)} {a b c x y z : List ℕ} → ts ≡ a ∷ b ∷ c ∷ [] → ts ≡ x ∷ y ∷ z ∷ [] → (a ≡ x) × (b ≡ y) × (c ≡ z)
three_same e f = ((cc), (cc), (cc))

pub none_some : {A : Type 0} (o : Option A) (a : A) → o ≡ None → o ≡ Some a → ⊥
none_some o a e f = cc

pub some_same : {A : Type 0} {o : Option A} {a : A} (b : A) → o ≡ Some a → o ≡ Some b → a ≡ b
some_same b e f = cc

-- what needs the value of an option is decided by what it says of the value
pub from_value : {A B : Type 0} (o : Option A) → (B → (a : A) × (o ≡ Some a)) → ((a : A) → o ≡ Some a → Decided B) → Decided B
from_value None need by = inr (λ b. none_some None (need b).0 refl (need b).1)
from_value (Some a) need by = by a refl
