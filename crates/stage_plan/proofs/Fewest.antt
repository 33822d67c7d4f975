-- No placement of sound operations has fewer stages than they have.
use Rattle.std.proofs.Common.{◌≡◌, ℕ, zero, suc, ◌+◌, ◌-◌, ◌<◌, ◌≤◌, true, false, List, [], ◌∷◌, length, get_or, Some, Option, refl, sym}
use Rattle.std.proofs.{Common.{ap, subst, ◌∙◌, inl, inr, arith}, lemmas.{Bool.{cases_lt, Decides.nat_tests}, List.{get_or-map, length-map}}}
use Rattle.std.proofs.lemmas.Option.{slice_get_within, same_Some, slice_get_cases}
use Rattle.std.specs.Prelude.{map, nat_lt, slice_get, slice_index, option_map, unwrap_or, if◌then◌else◌}
use Rattle.marple_base.specs.declared.field.TheConstants.{FIELDS}
use Rattle.stage_plan.specs.{declared.op.{Operand.{Operand, TheVariants.{Register, Number}}, PlanOp.PlanOp}, Placements.IsPlacement}
use Rattle.stage_plan.specs.{Registers.{operand_stage, stages_of}, Shape.greatest, Sound.{IsWithin, IsSoundOp, AreSoundOps, Follows}}
use Rattle.stage_plan.proofs.{Runs.stage_of_register, PlanParts.stages_within}

pub highest : (ops : List PlanOp) → greatest (map (λ (one : PlanOp). one.stage) ops) ≡ stages_of ops
highest [] = refl
highest (one ∷ ops) = cc (highest ops)

greatest_above : (stages : List ℕ) (i : ℕ) → slice_index stages i ≤ greatest stages
greatest_above [] i = omega arith
greatest_above (s ∷ stages) zero = omega arith
greatest_above (s ∷ stages) (suc i) = omega (arith, greatest_above stages i)

-- what an operand has to wait for comes before the stage
module _ (ops : List PlanOp) (stages : List ℕ) (p : IsPlacement ops stages) where
  waits : (i bound : ℕ) (o : Operand) → i ≤ bound → 0 < slice_index stages i → IsWithin (FIELDS + i) o →
      ((number : ℕ) → o ≡ Register (FIELDS + number) → slice_index stages number < slice_index stages i) →
      ((k : ℕ) (one : PlanOp) → k < bound → slice_get ops k ≡ Some one → one.stage ≤ slice_index stages k)
      → operand_stage ops o < slice_index stages i
  waits i bound (Number n) most some within later before = omega arith
  waits i bound (Register r) most some within later before = elim (cases_lt r FIELDS) [
    | inl field ↦
        let early : nat_lt r FIELDS ≡ true = grind (arith, nat_tests) in
        let none : operand_stage ops (Register r) ≡ 0 = ap (λ b. if b then 0 else unwrap_or
        (option_map (λ (x : PlanOp). x.stage) (slice_get ops (r - FIELDS))) 0) early in
        omega arith
    | inr beyond ↦
        let number : ℕ = r - FIELDS in
        let same : r ≡ FIELDS + number = omega arith in
        let late : nat_lt r FIELDS ≡ false = grind (arith, nat_tests) in
        let here : slice_index stages number < slice_index stages i = later number (ap Register same) in
        let there : operand_stage ops (Register r) ≡ unwrap_or (option_map (λ (x : PlanOp). x.stage) (slice_get ops number)) 0 =
        ap (λ b. if b then 0 else unwrap_or (option_map (λ x. x.stage) (slice_get ops (r - FIELDS))) 0) late
        in
        elim ((slice_get_cases ops number).1) [
          | inl found ↦
              let low : found.0.stage ≤ slice_index stages number = before number found.0 (omega arith) found.2 in
              let is : operand_stage ops (Register r) ≡ found.0.stage = there
              ∙ ap (λ x. unwrap_or (option_map (λ y. y.stage) x) 0) found.2 in
              omega arith
          | inr past ↦
              let is : operand_stage ops (Register r) ≡ 0 = there ∙ ap (λ x. unwrap_or (option_map (λ y. y.stage) x) 0) past.1 in
              omega arith
        ]
  ]

  each_waits : AreSoundOps ops → (n : ℕ) (i : ℕ) (one : PlanOp) → i < n → slice_get ops i ≡ Some one → one.stage ≤ slice_index stages i
  each_waits sound zero i one lt found = absurd (omega arith)
  each_waits sound (suc n) i one lt found =
      let m : IsSoundOp ops i one = sound.each i one found in
      let here : i < length ops = slice_get_within ops i one found in
      let some : 0 < slice_index stages i = p.some i 0 (omega (arith, p.all)) in
      let before : (k : ℕ) (other : PlanOp) → k < n → slice_get ops k ≡ Some other → other.stage ≤ slice_index stages k =
      λ k other less there. each_waits sound n k other less there in
      let P : Option PlanOp → ℕ → Type 0 = λ o number. Follows o number in
      let left : operand_stage ops one.left < slice_index stages i =
      waits i n one.left (omega arith) some m.left (λ number e. p.beyond i number here (subst (λ o. P o number) (sym found) (inl e))) before
      in
      let right : operand_stage ops one.right < slice_index stages i =
      waits i n one.right (omega arith) some m.right (λ number e. p.beyond i number here (subst (λ o. P o number) (sym found) (inr e)))
      before
      in
      let s = m.stage in
      omega arith

  pub fewest : AreSoundOps ops → stages_of ops ≤ greatest stages
  fewest sound = stages_within ops (greatest stages) (λ i one found.
      let low = each_waits sound (i + 1) i one (omega arith) found in
      omega (arith, greatest_above stages i))

stage_index : (ops : List PlanOp) (i : ℕ) (one : PlanOp) → slice_get ops i ≡ Some one
    → slice_index (map (λ (x : PlanOp). x.stage) ops) i ≡ one.stage
stage_index [] i _ e = cc
stage_index (first ∷ _) zero one e = cc (same_Some first one e)
stage_index (_ ∷ ops) (suc i) one e = stage_index ops i one e

-- the stages that the operations have are a placement
pub placed : (ops : List PlanOp) → AreSoundOps ops → IsPlacement ops (map (λ (one : PlanOp). one.stage) ops)
placed ops sound = record {
  all = length-map ops (λ one. one.stage);
  some = λ i d lt. each_some i d (omega (arith, length-map ops (λ one. one.stage)));
  beyond = each_after;
}
  where
    each_some : (i d : ℕ) → i < length ops → 0 < get_or (map (λ (one : PlanOp). one.stage) ops) i d
    each_some i d lt = elim ((slice_get_cases ops i).1) [
      | inl found ↦
          let s = (sound.each i found.0 found.2).stage in
          let is : get_or (map (λ one. one.stage) ops) i d ≡ (get_or ops i found.0).stage =
          get_or-map (λ (one : PlanOp). one.stage) ops i found.0 d lt in
          let same = ap (λ (x : PlanOp). x.stage) found.3 in
          omega arith
      | inr past ↦ absurd (omega arith)
    ]

    reads : (i number : ℕ) (one : PlanOp) (o : Operand) → slice_get ops i ≡ Some one → o ≡ Register (FIELDS + number)
        → IsWithin (FIELDS + i) o → operand_stage ops o < one.stage →
        slice_index (map (λ (x : PlanOp). x.stage) ops) number < slice_index (map (λ (x : PlanOp). x.stage) ops) i
    reads i number one o found e within less =
        let near : FIELDS + number < FIELDS + i = subst (IsWithin (FIELDS + i)) e within in
        let here : i < length ops = slice_get_within ops i one found in
        elim ((slice_get_cases ops number).1) [
          | inl there ↦
              let a = stage_index ops number there.0 there.2 in
              let b = stage_index ops i one found in
              let c : operand_stage ops o ≡ there.0.stage = ap (operand_stage ops) e ∙ stage_of_register ops number there.0 there.2 in
              omega arith
          | inr past ↦ absurd (omega arith)
        ]

    each_after : (i number : ℕ) → i < length ops → Follows (slice_get ops i) number
        → slice_index (map (λ (x : PlanOp). x.stage) ops) number < slice_index (map (λ (x : PlanOp). x.stage) ops) i
    each_after i number lt follows = elim ((slice_get_cases ops i).1) [
      | inl found ↦
          let P : Option PlanOp → Type 0 = λ o. Follows o number in
          let m = sound.each i found.0 found.2 in
          let s = m.stage in
          elim (subst P found.2 follows) [
            | inl left ↦ reads i number found.0 found.0.left found.2 left m.left (omega arith)
            | inr right ↦ reads i number found.0 found.0.right found.2 right m.right (omega arith)
          ]
      | inr past ↦ absurd (omega arith)
    ]
