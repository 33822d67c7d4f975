-- The fields of a list are in their set.
use Rattle.marple_laws.proofs.Words.{◌≡◌, ℕ, ◌^◌, List, [], ◌∷◌, ap, ◌∙◌, inl, inr, arith, bit_or, fold, bit_at, Field, FieldSet, number_of}
use Rattle.marple_laws.proofs.{Words.{HasField, with_field, field_set}, Items.IsIn}
use Rattle.std.proofs.lemmas.Nat.Bits.{bit_at_or, bit_at-pow_same, bit_at-lt}

-- the fields of a list are in their set
kept_bit : (fields : List Field) (set : FieldSet) (i : ℕ) → bit_at set.bits i ≡ 1 → bit_at (fold with_field set fields).bits i ≡ 1
kept_bit [] set i e = e
kept_bit (f ∷ fields) set i e =
    let kept : bit_at (bit_or set.bits (2 ^ number_of f)) i ≡ 1 = omega
    (arith, bit_at_or set.bits (2 ^ number_of f) i, e, bit_at-lt (2 ^ number_of f) i) in
    kept_bit fields (with_field set f) i kept

has_bit : (fields : List Field) (set : FieldSet) (f : Field) → IsIn f fields → bit_at (fold with_field set fields).bits (number_of f) ≡ 1
has_bit (g ∷ fields) set f (inl e) =
    let same : bit_at (2 ^ number_of g) (number_of f) ≡ 1 = ap (λ h. bit_at (2 ^ number_of g) (number_of h)) e
    ∙ bit_at-pow_same (number_of g) in
    let there : bit_at (bit_or set.bits (2 ^ number_of g)) (number_of f) ≡ 1 =
    omega (arith, bit_at_or set.bits (2 ^ number_of g) (number_of f), same, bit_at-lt set.bits (number_of f)) in
    kept_bit fields (with_field set g) (number_of f) there
has_bit (g ∷ fields) set f (inr h) = has_bit fields (with_field set g) f h
has_bit [] set f h = absurd h

pub in_set : (fields : List Field) (f : Field) → IsIn f fields → HasField (field_set fields) f
in_set fields f h = let e : bit_at (field_set fields).bits (number_of f) ≡ 1 = has_bit _ _ f h in grind arith
