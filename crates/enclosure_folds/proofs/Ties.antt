-- What a kind says of the values of one expression in two runs.
use Rattle.std.proofs.Common.{◌≡◌, ℕ, ◌≤◌, true, not, List, slice_index, refl, ap, ◌∙◌, subst, arith}
use Rattle.query_lang.specs.{declared.fold.Op.Op, Words.{flag, holds, op_value}, Terms.{Term, Literal, Read, Negation, Operation}}
use Rattle.query_lang.specs.Folds.{term_value, IsValidTerm}
use Rattle.fold_class.specs.declared.class.{Kind.{Kind, TheVariants.{Pure as Free, Affine as Rising, Other as Wild}}, Role.Role}
use Rattle.fold_class.specs.declared.class.Role.TheVariants.{Sum, Difference, Product, Outside}
use Rattle.fold_class.specs.Kinds.{greater, product_kind, outside_kind, role_kind, expr_kind, is_no_other}
use Rattle.enclosure_folds.{specs.Kinds.role, proofs.Operators.{sum_order, product_order, no_difference, number_free}}

-- Free values are the same, and Rising ones in order
abbrev pub Tied : Kind → ℕ → ℕ → Type 0
Tied Free x y = x ≡ y
Tied Rising x y = x ≤ y
Tied Wild x y = Unit {0}

-- the values of all slots
abbrev pub Ties : (ℕ → Kind) → List ℕ → List ℕ → Type 0
Ties kinds xs ys = (s : ℕ) → Tied (kinds s) (slice_index xs s) (slice_index ys s)

pub tied_order : (k : Kind) (x y : ℕ) → is_no_other k ≡ true → Tied k x y → x ≤ y
tied_order Free x y e h = omega (arith, h)
tied_order Rising x y e h = h
tied_order Wild x y e h = cc

equal_tied : (k : Kind) (x y : ℕ) → x ≡ y → Tied k x y
equal_tied Free x y e = e
equal_tied Rising x y e = omega (arith, e)
equal_tied Wild x y e = tt

pub greater_left : (k l : Kind) (x y : ℕ) → Tied k x y → Tied (greater k l) x y
greater_left Free l x y h = equal_tied l x y h
greater_left Rising Free x y h = h
greater_left Rising Rising x y h = h
greater_left Rising Wild x y h = tt
greater_left Wild l x y h = tt

pub greater_right : (k l : Kind) (x y : ℕ) → Tied l x y → Tied (greater k l) x y
greater_right Free l x y h = h
greater_right Rising Free x y h = omega (arith, h)
greater_right Rising Rising x y h = h
greater_right Rising Wild x y h = tt
greater_right Wild l x y h = tt

sum_tied : (g : ℕ → ℕ → ℕ) (k l : Kind) (x y u v : ℕ) → (x ≤ y → u ≤ v → g x u ≤ g y v) → Tied k x y → Tied l u v
    → Tied (greater k l) (g x u) (g y v)
sum_tied g Free Free x y u v m p q = ap (λ z. g z u) p ∙ ap (λ z. g y z) q
sum_tied g Free Rising x y u v m p q = m (omega (arith, p)) q
sum_tied g Free Wild x y u v m p q = tt
sum_tied g Rising Free x y u v m p q = m p (omega (arith, q))
sum_tied g Rising Rising x y u v m p q = m p q
sum_tied g Rising Wild x y u v m p q = tt
sum_tied g Wild l x y u v m p q = tt

product_tied : (g : ℕ → ℕ → ℕ) (k : Kind) (x y u v : ℕ) → (x ≤ y → g x u ≤ g y u) → u ≡ v → Tied k x y
    → Tied (product_kind k Free) (g x u) (g y v)
product_tied g Free x y u v m e h = ap (λ z. g z u) h ∙ ap (λ z. g y z) e
product_tied g Rising x y u v m e h = rw (← e) (m h)
product_tied g Wild x y u v m e h = tt

outside_tied : (g : ℕ → ℕ → ℕ) (k l : Kind) (x y u v : ℕ) → Tied k x y → Tied l u v → Tied (outside_kind k l) (g x u) (g y v)
outside_tied g Free Free x y u v p q = ap (λ z. g z u) p ∙ ap (λ z. g y z) q
outside_tied g Free Rising x y u v p q = tt
outside_tied g Free Wild x y u v p q = tt
outside_tied g Rising l x y u v p q = tt
outside_tied g Wild l x y u v p q = tt

op_tied : (op : Op) (k l : Kind) (x y u v : ℕ) → Tied k x y → Tied l u v → (role op ≡ Product → l ≡ Free)
    → Tied (role_kind (role op) k l) (op_value op x u) (op_value op y v)
op_tied op k l x y u v p q number = by_role _ refl
  where
    by_role : (r : Role) → role op ≡ r → Tied (role_kind r k l) (op_value op x u) (op_value op y v)
    by_role Sum e = sum_tied (op_value op) k l x y u v (sum_order _ x y u v e) p q
    by_role Difference e = absurd (no_difference _ e)
    by_role Product e =
        rw (number e) (product_tied (op_value op) k x y u v (product_order op x y u e) (subst (λ z. Tied z u v) (number e) q) p)
    by_role Outside e = outside_tied (op_value op) k l x y u v p q

-- from tied slots, an expression has tied values
pub expr_tied : (slots : ℕ) (e : Term) (kinds : ℕ → Kind) (xs ys : List ℕ) → IsValidTerm slots e → Ties kinds xs ys
    → Tied (expr_kind role e kinds) (term_value e xs) (term_value e ys)
expr_tied slots (Literal n) kinds xs ys valid h = refl
expr_tied slots (Read s) kinds xs ys valid h = h s
expr_tied slots (Negation e) kinds xs ys valid h =
    outside_tied (λ z w. flag (not (holds w))) Free _ 0 0 _ _ refl
    (expr_tied slots e kinds xs ys valid.0 h)
expr_tied slots (Operation op a b) kinds xs ys valid h =
    op_tied _ _ _ _ _ _ _
    (expr_tied slots a kinds xs ys valid.0 h) (expr_tied slots b kinds xs ys valid.1 h) (λ e. number_free _ a b _ e valid.2)
