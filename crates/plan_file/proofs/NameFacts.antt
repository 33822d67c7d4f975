-- Whether a name is among names.
use Rattle.std.proofs.Common.{◌≡◌, ℕ, zero, suc, ◌<◌, true, false, List, [], ◌∷◌, length, get_or, refl, sym, ap, ◌∙◌, arith, Contains}
use Rattle.std.specs.Str.{bytes_eq}
use Rattle.plan_file.{specs.{declared.made.Folded.Folded, Groups.names_of}, proofs.ReadsFacts.{text_same, text_other}}

default_same : {A : Type 0} (xs : List A) (k : ℕ) (a b : A) → k < length xs → get_or xs k a ≡ get_or xs k b
default_same [] k a b h = elim h [ ]
default_same (x ∷ xs) zero a b h = refl
default_same (x ∷ xs) (suc k) a b h = default_same xs k a b (omega (arith, h))

-- the name at a place is this one, or another
pub found_at : (names : List (List ℕ)) (name one : List ℕ) (i : ℕ) → i < length names → one ≡ get_or names i one → bytes_eq one name ≡ true
    → Contains names name
found_at names name one i lt is test = (i, lt, default_same names i name one lt ∙ sym is ∙ text_same one name test)

pub other_at : (names : List (List ℕ)) (name one : List ℕ) (i : ℕ) → i < length names → one ≡ get_or names i one → bytes_eq one name ≡ false
    → get_or names i [] ≡ name → ⊥
other_at names name one i lt is test e = text_other one name test (is ∙ default_same names i one [] lt ∙ e)

pub not_among : (names : List (List ℕ)) (name : List ℕ) → ((k : ℕ) → k < length names → get_or names k [] ≡ name → ⊥) → Contains names name
    → ⊥
not_among names name none found = none found.0 found.1 (default_same names found.0 [] name found.1 ∙ found.2)

pub count_names : (groups : List Folded) → length (names_of groups) ≡ length groups
count_names [] = refl
count_names (g ∷ groups) = ap suc (count_names groups)

name_at : (groups : List Folded) (d : Folded) (i : ℕ) → i < length groups
    → (get_or groups i d).group.name ≡ get_or (names_of groups) i d.group.name
name_at [] d i h = elim h [ ]
name_at (g ∷ groups) d zero h = refl
name_at (g ∷ groups) d (suc i) h = name_at groups d i (omega (arith, h))

pub named_at : (groups : List Folded) (one : Folded) (i : ℕ) → i < length groups → one ≡ get_or groups i one
    → one.group.name ≡ get_or (names_of groups) i one.group.name
named_at groups one i lt is = ap (λ g. g.group.name) is ∙ name_at groups one i lt
