-- The fields that the text of a query's plan names are those that the query reads.
use Rattle.marple_laws.proofs.Words
use Words.{◌≡◌, ℕ, ◌^◌, ◌<◌, max, List, [], ◌∷◌, refl, sym, ap, ◌∙◌, inl, inr, arith, bit_or, fold, bit_at, cases_eq, Field, FieldSet}
use Words.{number_of, all_fields, has_field, HasField, no_fields, with_field, field_set, TypedQuery, read_fields, reads_of, reads_in}
use Words.{fields_of, made_of}
use Rattle.marple_laws.proofs.{Fields.{all_in, in_filter, out_of_filter}, Items.IsIn, Listed.in_set}
use Rattle.std.proofs.lemmas.Nat.Bits.{bit_at_or, bit_at-lt, bit_at-pow_same, bit_at-pow_other, same_from_bits}

-- 1 where some field of these has this number, and 0 otherwise
abbrev among : ℕ → List Field → ℕ
among i [] = 0
among i (f ∷ fields) = max (bit_at (2 ^ number_of f) i) (among i fields)

bits_are : (fields : List Field) (set : FieldSet) (i : ℕ) → bit_at (fold with_field set fields).bits i ≡ max (bit_at set.bits i)
    (among i fields)
bits_are [] set i = omega arith
bits_are (f ∷ fields) set i =
    let h : bit_at (fold with_field (with_field set f) fields).bits i ≡ max (bit_at (bit_or set.bits (2 ^ number_of f)) i)
    (among i fields) = bits_are fields (with_field set f) i in
    let o = bit_at_or set.bits (2 ^ number_of f) i in
    omega (arith, h, o)

at_most_one : (fields : List Field) (i : ℕ) → among i fields < 2
at_most_one [] i = omega arith
at_most_one (f ∷ fields) i = omega (arith, bit_at-lt (2 ^ number_of f) i, at_most_one fields i)

among_in : (fields : List Field) (f : Field) (i : ℕ) → number_of f ≡ i → IsIn f fields → among i fields ≡ 1
among_in (g ∷ fields) f i e (inl same) =
    let one : bit_at (2 ^ number_of g) i ≡ 1 = ap (λ h. bit_at (2 ^ number_of h) i) (sym same)
    ∙ ap (λ k. bit_at (2 ^ number_of f) k) (sym e) ∙ bit_at-pow_same (number_of f) in
    omega (arith, one, at_most_one fields i)
among_in (g ∷ fields) f i e (inr h) = omega (arith, among_in fields f i e h, bit_at-lt (2 ^ number_of g) i)
among_in [] f i e h = absurd h

-- a field of these with this number
record Named (fields : List Field) (i : ℕ) : Type 0 where
  field : Field
  is_in : IsIn field fields
  number : number_of field ≡ i

some_named : (fields : List Field) {i : ℕ} → among i fields ≡ 1 → Named fields i
some_named [] e = absurd (omega (arith, e))
some_named (f ∷ fields) {i} e = elim (cases_eq i (number_of f)) [
  | inl same ↦ record { field = f; is_in = inl refl; number = sym same }
  | inr other ↦
      let none = bit_at-pow_other (number_of f) i other in
      let h = some_named fields (omega (arith, e, none)) in
      record { field = h.field; is_in = inr h.is_in; number = h.number }
]

has_from : (fields : List Field) (f : Field) → HasField (field_set fields) f → among (number_of f) fields ≡ 1
has_from fields f h =
    let bit : bit_at (field_set fields).bits (number_of f) ≡ 1 = grind arith in
    let all : bit_at (field_set fields).bits (number_of f) ≡ max (bit_at 0 (number_of f)) (among (number_of f) fields) =
    bits_are _ _ _ in
    omega arith

same_among : (fields : List Field) (i : ℕ) → among i (fields_of (field_set fields)) ≡ among i fields
same_among fields i = elim (cases_eq (among i fields) 1) [
  | inl one ↦
      let n = some_named fields one in
      among_in (fields_of (field_set fields)) n.field i n.number (in_filter (has_field (field_set fields)) n.field all_fields
      (in_set fields n.field n.is_in) (all_in n.field)) ∙ sym one
  | inr other ↦ elim (cases_eq (among i (fields_of (field_set fields))) 1) [
    | inl one ↦
        let n = some_named (fields_of (field_set fields)) one in
        let has : HasField (field_set fields) n.field = out_of_filter (has_field (field_set fields)) n.field all_fields n.is_in in
        one ∙ sym (ap (λ k. among k fields) (sym n.number) ∙ has_from fields n.field has)
    | inr none ↦ omega (arith, other, none, at_most_one fields i, at_most_one (fields_of (field_set fields)) i)
  ]
]

same_bits : (one other : FieldSet) → one.bits ≡ other.bits → one ≡ other
same_bits one other e = let set : ℕ → FieldSet = λ b. record { bits = b } in ap set e

same_set : (fields : List Field) → field_set (fields_of (field_set fields)) ≡ field_set fields
same_set fields = same_bits (field_set (fields_of (field_set fields))) (field_set fields) (same_from_bits _ _ (λ i.
    let again : bit_at (field_set (fields_of (field_set fields))).bits i ≡ max (bit_at 0 i) (among i (fields_of (field_set fields))) =
    bits_are (fields_of (field_set fields)) no_fields i in
    let once : bit_at (field_set fields).bits i ≡ max (bit_at 0 i) (among i fields) = bits_are fields no_fields i in
    omega (arith, again, once, same_among fields i)))

pub one_reading : (q : TypedQuery) → reads_in (made_of q) ≡ reads_of q
one_reading q = same_set (read_fields q)
