-- How two ways to split a list relate to each other.
use Rattle.std.proofs.{Common.{◌≡◌, List, [], ◌∷◌, ◌++◌, refl, sym, ap, ◌∙◌}, lemmas.List.append-nil}

pub head_is : {X : Type 0} (x y : X) (xs ys : List X) → x ∷ xs ≡ y ∷ ys → x ≡ y
head_is x y xs ys e = cc

pub tail_is : {X : Type 0} (x y : X) (xs ys : List X) → x ∷ xs ≡ y ∷ ys → xs ≡ ys
tail_is x y xs ys e = cc

-- a ++ b and u ++ v are the same list
data Splits {X : Type 0} (a b u v : List X) : Type 0 where
  before : (y : List X) → a ≡ u ++ y → v ≡ y ++ b → Splits a b u v
  after : (y : List X) → u ≡ a ++ y → b ≡ y ++ v → Splits a b u v

one_longer : {X : Type 0} (x z : X) (a b u v : List X) → x ≡ z → Splits a b u v → Splits (x ∷ a) b (z ∷ u) v
one_longer x z a b u v h (before y p q) = before y (cc) q
one_longer x z a b u v h (after y p q) = after y (cc) q

splits : {X : Type 0} (a b u v : List X) → a ++ b ≡ u ++ v → Splits a b u v
splits [] b u v e = after u refl e
splits (x ∷ a) b [] v e = before (x ∷ a) refl (sym e)
splits (x ∷ a) b (z ∷ u) v e = one_longer x z a b u v (head_is x z (a ++ b) (u ++ v) e) (splits a b u v (tail_is x z (a ++ b) (u ++ v) e))

-- where l of u ++ l ∷ x is in a ++ b: in a, right after it, or later
pub data Place {X : Type 0} (a b u : List X) (l : X) (x : List X) : Type 0 where
  inside : (y : List X) → a ≡ u ++ l ∷ y → x ≡ y ++ b → Place a b u l x
  at_end : a ≡ u → b ≡ l ∷ x → Place a b u l x
  beyond : (h : X) (y : List X) → u ≡ a ++ h ∷ y → b ≡ h ∷ (y ++ l ∷ x) → Place a b u l x

pub place : {X : Type 0} (a b u : List X) (l : X) (x : List X) → a ++ b ≡ u ++ l ∷ x → Place a b u l x
place {X} a b u l x e = go (splits a b u (l ∷ x) e)
  where
    go : Splits a b u (l ∷ x) → Place a b u l x
    go (before [] p q) = at_end (p ∙ append-nil u) (sym q)
    go (before (h ∷ y) p q) = inside y (p ∙ ap (λ (z : X). u ++ z ∷ y) (sym (head_is l h x (y ++ b) q))) (tail_is l h x (y ++ b) q)
    go (after [] p q) = at_end (sym (p ∙ append-nil a)) q
    go (after (h ∷ y) p q) = beyond h y p q
