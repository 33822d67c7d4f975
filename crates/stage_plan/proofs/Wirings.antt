-- What holds of the wiring of a groupby in a plan.
use Rattle.std.proofs.Common.{◌≡◌, ℕ, ◌+◌, ◌<◌, ◌≤◌, List, length, get_or, Some, arith, inl, inr, ap, subst, sym, ◌∙◌}
use Rattle.std.{proofs.lemmas.Option.{slice_get_cases, slice_get_within}, specs.Prelude.{slice_get, All}}
use Rattle.marple_base.specs.declared.field.TheConstants.{FIELDS}
use Rattle.stage_plan.specs.declared.group.{GroupPlan.GroupPlan, GroupWiring.GroupWiring}
use Rattle.stage_plan.{specs.{Sound.{PlanParts, IsSoundPlan, IsSoundGroup, IsWithin}, declared.op.Operand.Operand}, proofs.Runs.within_more}

pub sound_wiring : (plan : PlanParts) (i : ℕ) (w : GroupWiring) → IsSoundPlan plan → i < length plan.groups
    → slice_get plan.wiring i ≡ Some w → (group : GroupPlan) × IsSoundGroup (FIELDS + length plan.ops) group w
sound_wiring plan i w sound lt found =
    elim ((slice_get_cases plan.groups i).1) [
      | inl there ↦ (there.0, sound.each i there.0 w there.2 found)
      | inr past ↦ absurd (omega arith)
    ]

pub all_within : (n m : ℕ) (xs ys : List Operand) → xs ≡ ys → n ≤ m → All (IsWithin n) ys → All (IsWithin m) xs
all_within n m xs ys same le all = λ k d lt.
    let lt' : k < length ys = omega (arith, ap length same) in
    within_more n m _ le (let P : List Operand → Type 0 = λ l. IsWithin n (get_or l k d) in rw same (all k d lt'))

-- the same of a plan that is seen as its parts
pub seen_wiring : (inside plan : PlanParts) (i : ℕ) (w : GroupWiring) → inside ≡ plan → IsSoundPlan inside → i < length plan.groups
    → slice_get inside.wiring i ≡ Some w → (group : GroupPlan) × IsSoundGroup (FIELDS + length plan.ops) group w
seen_wiring _ plan i w same sound lt found =
    let P : PlanParts → Type 0 = λ p. slice_get p.wiring i ≡ Some w in
    sound_wiring _ i w (subst IsSoundPlan same sound) lt (subst P same found)

-- a groupby of a plan
pub sound_group : (plan : PlanParts) (groups : List GroupPlan) (i : ℕ) (group : GroupPlan) → IsSoundPlan plan → groups ≡ plan.groups
    → slice_get groups i ≡ Some group → (w : GroupWiring) × IsSoundGroup (FIELDS + length plan.ops) group w
sound_group plan groups i group sound same found =
    let here : slice_get plan.groups i ≡ Some group = ap (λ l. slice_get l i) (sym same) ∙ found in
    elim ((slice_get_cases plan.wiring i).1) [
      | inl there ↦ (there.0, sound.each i group there.0 here there.2)
      | inr past ↦ absurd (let lt = slice_get_within plan.groups i group here in let w = sound.wired in omega arith)
    ]
