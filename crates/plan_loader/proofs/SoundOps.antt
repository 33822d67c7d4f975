-- The operations that the lines of a valid text make are those of a plan.
use Rattle.std.proofs.Common.{◌≡◌, ℕ, suc, ◌+◌, ◌-◌, ◌<◌, ◌≤◌, max, List, [], ◌∷◌, ◌++◌, length, map, Option, Some, None, refl, sym, ap}
use Rattle.std.proofs.{Common.{ap₂, ◌∙◌, subst, inl, inr, arith}, lemmas.{Bool.cases_lt, List.length_push}}
use Rattle.std.proofs.lemmas.List.Elements.{All-contains, All-map, All-nil, All-cons}
use Rattle.std.proofs.lemmas.Option.{slice_get_within, slice_get_cases, same_Some}
use Rattle.std.specs.Prelude.{slice_get, nat_lt, if◌then◌else◌, option_map, unwrap_or, Contains, All}
use Rattle.marple_base.specs.declared.field.Field.{Field}
use Rattle.marple_base.specs.{Field.number_of, declared.field.TheConstants.FIELDS}
use Rattle.query_lang.specs.declared.fault.TheConstants.{MAX_STAGES}
use Rattle.stage_plan.specs.{declared.op.{Operand.{Operand, TheVariants.{Register, Number}}, PlanOp.PlanOp}, Registers.operand_stage}
use Rattle.stage_plan.{specs.Sound.{AreSoundOps, IsSoundOp, IsWithin}, proofs.{Depths.same_stage, Lists.push_cases, Runs.within_more}}
use Rattle.stage_plan.proofs.Extending.{one_more}
use Rattle.plan_file.{specs.Operations.{IsKnown, IsAllowed, last_stage, stage_at, stage_of}, proofs.OperandFacts.number_below}

all_below : (fs : List Field) → All (λ f. number_of f < FIELDS) fs
all_below [] = All-nil (λ f. number_of f < FIELDS)
all_below (f ∷ fs) = All-cons (λ g. number_of g < FIELDS) f fs (number_below f) (all_below fs)

field_within : (fs : List Field) (r : ℕ) → Contains (map number_of fs) r → r < FIELDS
field_within fs r there = All-contains (λ n. n < FIELDS) (map number_of fs) r (All-map (λ n. n < FIELDS) number_of fs (all_below fs)) there

-- a known register is there
pub known_within : (fs : List Field) (ops : List PlanOp) (o : Operand) → IsKnown fs ops o → IsWithin (FIELDS + length ops) o
known_within fs ops (Register r) (inl field) = (let lt = field_within fs r field in omega arith)
known_within fs ops (Register r) (inr later) = later.1
known_within fs ops (Number n) known = tt

stage_alike : (o : Option PlanOp) → stage_at o ≡ unwrap_or (option_map (λ (one : PlanOp). one.stage) o) 0
stage_alike None = refl
stage_alike (Some one) = refl

stages_alike : (ops : List PlanOp) (o : Operand) → stage_of ops o ≡ operand_stage ops o
stages_alike ops (Register r) = ap (λ n. if nat_lt r FIELDS then 0 else n) (stage_alike (slice_get ops (r - FIELDS)))
stages_alike ops (Number n) = refl

-- the last operation is in the greatest stage
most_last : (ops : List PlanOp) (i : ℕ) (one : PlanOp) → AreSoundOps ops → slice_get ops i ≡ Some one → one.stage ≤ last_stage ops
most_last ops i one sound found =
    let within : i < length ops = slice_get_within ops i one found in
    elim (slice_get_cases ops (length ops - 1)).1 [
      | inl last ↦
          let is : last_stage ops ≡ last.0.stage = ap stage_at last.2 in
          elim (cases_lt i (length ops - 1)) [
            | inl less ↦ (let le = sound.ordered i (length ops - 1) one last.0 less found last.2 in omega (arith, le, is))
            | inr not ↦
                let at : i ≡ length ops - 1 = omega arith in
                let same : one ≡ last.0 = same_Some one last.0 (sym found ∙ ap (slice_get ops) at ∙ last.2) in
                omega (arith, is, ap (λ (x : PlanOp). x.stage) same)
          ]
      | inr past ↦ absurd (let p = past.0 in omega arith)
    ]

module _ (ops : List PlanOp) (op : PlanOp) (sound : AreSoundOps ops) (left : IsWithin (FIELDS + length ops) op.left)
    (right : IsWithin (FIELDS + length ops) op.right) where
  abbrev more : List PlanOp
  more = ops ++ op ∷ []

  kept : (o : Operand) → IsWithin (FIELDS + length ops) o → operand_stage more o ≡ operand_stage ops o
  kept o within = same_stage ops more o (one_more ops op) within

  old_op : (i : ℕ) (one : PlanOp) → slice_get ops i ≡ Some one → IsSoundOp more i one
  old_op i one found =
      let s = sound.each i one found in
      let lt : i < length ops = slice_get_within ops i one found in
      let l : operand_stage more one.left ≡ operand_stage ops one.left =
      kept one.left (within_more (FIELDS + i) (FIELDS + length ops) one.left (omega arith) s.left) in
      let r : operand_stage more one.right ≡ operand_stage ops one.right =
      kept one.right (within_more (FIELDS + i) (FIELDS + length ops) one.right (omega arith) s.right) in
      record { left = s.left; right = s.right; stage = s.stage ∙ sym (ap₂ (λ a b. suc (max a b)) l r); most = s.most }

  new_op : op.stage ≡ 1 + max (stage_of ops op.left) (stage_of ops op.right) → op.stage ≤ MAX_STAGES → IsSoundOp more (length ops) op
  new_op stage most =
      let l : operand_stage more op.left ≡ stage_of ops op.left = kept op.left left ∙ sym (stages_alike ops op.left) in
      let r : operand_stage more op.right ≡ stage_of ops op.right = kept op.right right ∙ sym (stages_alike ops op.right) in
      record { left = left; right = right; stage = omega (arith, stage, l, r); most = most }

-- one more operation that is allowed
pub ops_more : (fs : List Field) (ops : List PlanOp) (op : PlanOp) → AreSoundOps ops → IsAllowed fs ops op → AreSoundOps (ops ++ op ∷ [])
ops_more fs ops op sound allowed =
    let left = known_within fs ops op.left allowed.left in
    let right = known_within fs ops op.right allowed.right in
    let staged = allowed.staged in
    let new = new_op ops op sound left right staged.stage staged.most in
    record {
      each = λ i one found. elim (push_cases ops op i one found) [
        | inl old ↦ old_op ops op sound left right i one old
        | inr last ↦ subst (λ x. IsSoundOp (ops ++ op ∷ []) i x) last.1 (subst (λ j. IsSoundOp (ops ++ op ∷ []) j op) (sym last.0) new)
      ];
      ordered = λ i j one other lt found later. elim (push_cases ops op j other later) [
        | inl old ↦ elim (push_cases ops op i one found) [
          | inl first ↦ sound.ordered i j one other lt first old
          | inr last ↦ absurd (let n = slice_get_within ops j other old in let e = last.0 in omega arith)
        ]
        | inr last ↦ elim (push_cases ops op i one found) [
          | inl first ↦ (let le = most_last ops i one sound first in let order =
              staged.order in omega (arith, le, order, ap (λ (x : PlanOp). x.stage) last.1))
          | inr both ↦ absurd (let e = last.0 in let f = both.0 in omega arith)
        ]
      ];
      most = (let room = staged.room in omega (arith, room, length_push ops op));
    }
