-- Sets of fields, filled field by field.
use Rattle.std.proofs.Common.{◌≡◌, ◌↔◌, ◌⊎◌, ℕ, suc, zero, ◌+◌, ◌<◌, ◌≤◌, Bool, true, false, get_or, refl, sym, ap, ◌∙◌, inl, inr, arith}
use Rattle.std.proofs.lemmas.Bool.{cases_eq}
use Rattle.marple_base.specs.{Field.{HasField, all_fields, has_field, no_fields, number_of}, declared.field.Field.Field}
use Rattle.marple_base.specs.declared.field.Field.TheVariants.{Switch, Qid, Uid, SrcIp, DstIp, SrcPort, DstPort, Proto, PktLen, PayloadLen}
use Rattle.marple_base.specs.declared.field.{Field.TheVariants.{TcpSeq, Tin, Tout, QSize}, FieldSet.FieldSet, TheConstants.FIELDS}
use Rattle.marple_base.proofs.Fields.{same_field}

none_there : (f : Field) → has_field no_fields f ≡ false
none_there Switch = refl
none_there Qid = refl
none_there Uid = refl
none_there SrcIp = refl
none_there DstIp = refl
none_there SrcPort = refl
none_there DstPort = refl
none_there Proto = refl
none_there PktLen = refl
none_there PayloadLen = refl
none_there TcpSeq = refl
none_there Tin = refl
none_there Tout = refl
none_there QSize = refl

small : (f : Field) → number_of f < FIELDS
small Switch = omega arith
small Qid = omega arith
small Uid = omega arith
small SrcIp = omega arith
small DstIp = omega arith
small SrcPort = omega arith
small DstPort = omega arith
small Proto = omega arith
small PktLen = omega arith
small PayloadLen = omega arith
small TcpSeq = omega arith
small Tin = omega arith
small Tout = omega arith
small QSize = omega arith

number_at : (i : ℕ) → i < FIELDS → number_of (get_or all_fields i Switch) ≡ i
number_at zero within = refl
number_at (suc zero) within = refl
number_at (suc (suc zero)) within = refl
number_at (suc (suc (suc zero))) within = refl
number_at (suc (suc (suc (suc zero)))) within = refl
number_at (suc (suc (suc (suc (suc zero))))) within = refl
number_at (suc (suc (suc (suc (suc (suc zero)))))) within = refl
number_at (suc (suc (suc (suc (suc (suc (suc zero))))))) within = refl
number_at (suc (suc (suc (suc (suc (suc (suc (suc zero)))))))) within = refl
number_at (suc (suc (suc (suc (suc (suc (suc (suc (suc zero))))))))) within = refl
number_at (suc (suc (suc (suc (suc (suc (suc (suc (suc (suc zero)))))))))) within = refl
number_at (suc (suc (suc (suc (suc (suc (suc (suc (suc (suc (suc zero))))))))))) within = refl
number_at (suc (suc (suc (suc (suc (suc (suc (suc (suc (suc (suc (suc zero)))))))))))) within = refl
number_at (suc (suc (suc (suc (suc (suc (suc (suc (suc (suc (suc (suc (suc zero))))))))))))) within = refl
number_at (suc (suc (suc (suc (suc (suc (suc (suc (suc (suc (suc (suc (suc (suc i)))))))))))))) within = absurd (omega arith)

-- the fields with smaller numbers for which the test holds
abbrev pub AreBelow : (Field → Bool) → FieldSet → ℕ → Type 0
AreBelow test fields i = (f : Field) → HasField fields f ↔ ((test f ≡ true) × (number_of f < i))

pub below_none : (test : Field → Bool) → AreBelow test no_fields 0
below_none test f = ((λ has. absurd (cc (none_there f, has))), (λ both. absurd (omega (arith, both.1))))

pub below_with : (test : Field → Bool) (old new : FieldSet) (i : ℕ) → i < FIELDS
    → test (get_or all_fields i Switch) ≡ true → AreBelow test old i
    → ((f : Field) → HasField new f ↔ (HasField old f ⊎ (f ≡ get_or all_fields i Switch))) → AreBelow test new (i + 1)
below_with test old new i within holds below with f = (
  (λ has. elim ((with f).0 has) [
    | inl before ↦ let h = (below f).0 before in (h.0, omega (arith, h.1))
    | inr same ↦
        let number : number_of f ≡ i = ap number_of same ∙ number_at i within in
        (ap test same ∙ holds, omega (arith, number))
  ]),
  (λ both. elim (cases_eq (number_of f) i) [
    | inl here ↦ (with f).1 (inr (same_field f (get_or all_fields i Switch) (here ∙ sym (number_at i within))))
    | inr there ↦ (with f).1 (inl ((below f).1 (both.0, (let not : number_of f ≡ i → ⊥ = there in omega (arith, both.1, not)))))
  ]),
)

pub below_without : (test : Field → Bool) (fields : FieldSet) (i : ℕ) → i < FIELDS
    → test (get_or all_fields i Switch) ≡ false → AreBelow test fields i
    → AreBelow test fields (i + 1)
below_without test fields i within fails below f = (
  (λ has. let h = (below f).0 has in (h.0, omega (arith, h.1))),
  (λ both. elim (cases_eq (number_of f) i) [
    | inl here ↦
        let same : f ≡ get_or all_fields i Switch = same_field f (get_or all_fields i Switch) (here ∙ sym (number_at i within)) in
        absurd (cc (both.0, ap test same, fails))
    | inr there ↦ (below f).1 (both.0, (let not : number_of f ≡ i → ⊥ = there in omega (arith, both.1, not)))
  ]),
)

same_bool : (a b : Bool) → (a ≡ true → b ≡ true) → (b ≡ true → a ≡ true) → a ≡ b
same_bool true true to from = refl
same_bool true false to from = sym (to refl)
same_bool false true to from = from refl
same_bool false false to from = refl

pub below_all : (test : Field → Bool) (fields : FieldSet) (i : ℕ) → FIELDS ≤ i → AreBelow test fields i
    → (f : Field) → has_field fields f ≡ test f
below_all test fields i all below f =
    same_bool (has_field fields f) (test f) (λ has. ((below f).0 has).0) (λ holds. (below f).1 (holds, omega (arith, small f)))
