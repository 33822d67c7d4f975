-- A chain of operations, each an operand of the next.
use Rattle.std.proofs.Common.{◌≡◌, ℕ, zero, suc, ◌+◌, ◌-◌, ◌<◌, ◌≤◌, true, false, List, [], ◌∷◌, ◌++◌, length, get_or, refl, sym, ap, ◌∙◌}
use Rattle.std.proofs.{Common.{inl, inr, arith}, lemmas.Bool.{cases_eq, cases_lt}}
use Rattle.std.{proofs.lemmas.Option.{slice_get_within, same_Some, slice_get_cases, slice_get-get_or}, specs.Prelude.slice_get}
use Rattle.marple_base.specs.declared.field.TheConstants.{FIELDS}
use Rattle.stage_plan.specs.{declared.op.{Operand.TheVariants.Register, PlanOp.PlanOp}, Registers.{operand_stage, stages_of}}
use Rattle.stage_plan.{specs.Sound.{AreSoundOps, IsPrevious, EndsAt, IsChain}, proofs.Runs.{stage_of_register, stage_below}}
use Rattle.stage_plan.proofs.PlanParts.{stages_within}

-- the stage of the operation at a place
pub stage_at : (ops : List PlanOp) (at : ℕ) (d : PlanOp) → at < length ops
    → operand_stage ops (Register (FIELDS + at)) ≡ (get_or ops at d).stage
stage_at ops at d lt = stage_of_register _ at (get_or ops at d) (slice_get-get_or _ at d lt)

-- one of the operands is in the stage before
pub some_previous : (ops : List PlanOp) (at : ℕ) (d : PlanOp) → AreSoundOps ops → at < length ops
    → 1 < operand_stage ops (Register (FIELDS + at)) → (operand_stage ops (get_or ops at d).left ≡ (get_or ops at d).stage - 1 → ⊥)
    → (operand_stage ops (get_or ops at d).right ≡ (get_or ops at d).stage - 1 → ⊥) → ⊥
some_previous ops at d sound lt late l r =
    let s = (sound.each at (get_or ops at d) (slice_get-get_or _ at d lt)).stage in
    elim (cases_lt (operand_stage ops (get_or ops at d).left) (operand_stage ops (get_or ops at d).right)) [
      | inl less ↦ r (omega arith)
      | inr most ↦ l (omega arith)
    ]

pub chain_first : (ops : List PlanOp) (at : ℕ) (d : PlanOp) → AreSoundOps ops → at < length ops → (get_or ops at d).stage ≤ 1
    → EndsAt ops ([] ++ at ∷ []) at
chain_first ops at d sound lt low =
    let s = (sound.each at (get_or ops at d) (slice_get-get_or _ at d lt)).stage in
    let a = stage_at _ at d lt in
    record {
      long = omega arith;
      within = only;
      linked = λ i h. absurd (omega arith);
      last = refl;
    }
  where
    only : (k d' : ℕ) → k < 1 → get_or (at ∷ []) k d' < length ops
    only zero d' h = lt
    only (suc k) d' h = omega arith

-- the last operation is in the last stage
pub chain_is : (ops : List PlanOp) (list : List ℕ) (at : ℕ) → AreSoundOps ops → at + 1 ≡ length ops → EndsAt ops list at → IsChain ops list
chain_is ops list at sound last e = elim ((slice_get_cases ops at).1) [
  | inl found ↦
      let s : operand_stage ops (Register (FIELDS + at)) ≡ found.0.stage = stage_of_register ops at found.0 found.2 in
      let low : found.0.stage ≤ stages_of ops = stage_below ops at found.0 found.2 in
      let high : stages_of ops ≤ found.0.stage = stages_within ops found.0.stage (λ i one f. elim (cases_eq i at) [
        | inl same ↦ (let t : one.stage ≡ found.0.stage = ap (λ x. x.stage)
            (same_Some one found.0 (sym f ∙ ap (slice_get ops) same ∙ found.2)) in omega arith)
        | inr other ↦ (let w = slice_get_within ops i one f in sound.ordered i at one found.0 (omega arith) f found.2)
      ]) in
      record { long = (let a = e.long in omega arith); within = e.within; linked = e.linked }
  | inr past ↦ absurd (omega arith)
]

pub none_previous : (ops : List PlanOp) (at number : ℕ) (d : PlanOp) → AreSoundOps ops → at < length ops
    → 1 < operand_stage ops (Register (FIELDS + at)) →
    (0 < (get_or ops at d).stage - 1 → operand_stage ops (get_or ops at d).left ≡ (get_or ops at d).stage - 1 → false ≡ true) →
    (0 < (get_or ops at d).stage - 1 → operand_stage ops (get_or ops at d).right ≡ (get_or ops at d).stage - 1 → false ≡ true)
    → IsPrevious ops at number
none_previous ops at number d sound lt late l r =
    let s = stage_at _ at d lt in
    let some : 0 < (get_or ops at d).stage - 1 = omega arith in
    absurd (some_previous _ at d sound lt late (λ e. no (l some e)) (λ e. no (r some e)))
  where
    no : false ≡ true → ⊥
    no f = cc
