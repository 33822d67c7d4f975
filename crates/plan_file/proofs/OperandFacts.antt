-- Which registers are known.
use Rattle.std.proofs.Common.{◌≡◌, ℕ, zero, suc, ◌+◌, ◌<◌, ◌≤◌, Bool, true, false, List, [], ◌∷◌, length, get_or, map, Some, refl, sym, ap}
use Rattle.std.{proofs.{Common.{◌∙◌, arith, inl, inr, Contains, subst}, lemmas.Bool.Decides.nat_tests}, specs.Prelude.nat_lt}
use Rattle.marple_base.specs.{declared.field.{Field.{Field, TheVariants.Switch}, TheConstants.FIELDS}, Field.number_of}
use Rattle.stage_plan.specs.declared.op.{Operand.{Operand, TheVariants.{Register, Number}}, PlanOp.PlanOp}
use Rattle.plan_file.specs.Operations.{operand, register, IsKnown, IsKnownRegister}

pub same_default : (xs : List ℕ) (k a b : ℕ) → k < length xs → get_or xs k a ≡ get_or xs k b
same_default [] k a b h = elim h [ ]
same_default (x ∷ xs) zero a b h = refl
same_default (x ∷ xs) (suc k) a b h = same_default xs k a b (omega (arith, h))

size_of_map : (fields : List Field) → length (map number_of fields) ≡ length fields
size_of_map [] = refl
size_of_map (f ∷ fields) = ap suc (size_of_map fields)

at_map : (fields : List Field) (k : ℕ) (d : Field) → k < length fields → get_or (map number_of fields) k 0 ≡ number_of (get_or fields k d)
at_map [] k d h = elim h [ ]
at_map (f ∷ fields) zero d h = refl
at_map (f ∷ fields) (suc k) d h = at_map fields k d (omega (arith, h))

-- one more field that hasn't the number
pub none_more : (fields : List Field) (n i : ℕ) (d : Field) → i < length fields
    → ((k : ℕ) → k < i → get_or (map number_of fields) k 0 ≡ n → ⊥)
    → (number_of (get_or fields i d) ≡ n → ⊥) → (k : ℕ) → k < i + 1 → get_or (map number_of fields) k 0 ≡ n → ⊥
none_more fields n i d within before here k lt e = by (nat_lt k i) refl
  where
    by : (b : Bool) → nat_lt k i ≡ b → ⊥
    by true t = before k (grind (arith, nat_tests)) e
    by false t =
        let same : k ≡ i = grind (arith, nat_tests) in
        here (sym (at_map fields i d within) ∙ (rw same at e))

pub not_among : (fields : List Field) (n : ℕ) → ((k : ℕ) → k < length fields → get_or (map number_of fields) k 0 ≡ n → ⊥)
    → Contains (map number_of fields) n → ⊥
not_among fields n none found =
    none found.0 (omega (arith, size_of_map fields, found.1)) (same_default (map number_of fields) found.0 0 n found.1 ∙ found.2)

pub number_below : (f : Field) → number_of f < FIELDS
number_below Switch = omega arith
number_below _ = omega arith

each_below : (fields : List Field) (k d : ℕ) → k < length (map number_of fields) → get_or (map number_of fields) k d < FIELDS
each_below [] k d h = elim h [ ]
each_below (f ∷ fields) zero d h = number_below f
each_below (f ∷ fields) (suc k) d h = each_below fields k d (omega (arith, h))

pub field_below : (fields : List Field) (n : ℕ) → Contains (map number_of fields) n → n < FIELDS
field_below fields n found = omega (arith, each_below fields found.0 n found.1, found.2)

pub not_known : (fields : List Field) (ops : List PlanOp) (n : ℕ) → FIELDS ≤ n → FIELDS + length ops ≤ n → IsKnownRegister fields ops n → ⊥
not_known fields ops n large past (inl found) = omega (arith, field_below fields n found, large)
not_known fields ops n large past (inr made) = omega (arith, made.1, past)

pub known_bound : (fields : List Field) (ops : List PlanOp) (n : ℕ) → length ops ≤ 32768 → 65536 ≤ n → IsKnownRegister fields ops n → ⊥
known_bound fields ops n few large = not_known fields ops n (omega (arith, large)) (omega (arith, few, large))

pub register_unknown : (fields : List Field) (ops : List PlanOp) (token : List ℕ) (n : ℕ) → register token ≡ Some n
    → (IsKnownRegister fields ops n → ⊥) → (v : Operand) → operand token ≡ Some v → IsKnown fields ops v → ⊥
register_unknown fields ops token n b none (Register r) e known =
    let same : Some (Register n) ≡ Some (Register r) = rw b at e in
    let equal : r ≡ n = cc in
    none (subst (λ m. IsKnownRegister fields ops m) equal known)
register_unknown fields ops token n b none (Number m) e known =
    let same : Some (Register n) ≡ Some (Number m) = rw b at e in
    cc
