-- A groupby of a loaded plan takes of packets what its group takes.
use Rattle.std.proofs.Common.{◌≡◌, ℕ, List, [], map, Option, Some, ap, ◌∙◌}
use Rattle.std.{proofs.lemmas.Option.slice_get-map, specs.Prelude.{option_map, slice_get, unwrap_or}}
use Rattle.epoch_model.specs.Driving.{Taken, uses_taken}
use Rattle.stage_plan.specs.declared.{group.GroupWiring.GroupWiring, op.{Operand.TheVariants.Number, PlanOp.PlanOp}}
use Rattle.stage_plan.specs.{Planned.{taken, wiring_at}, Registers.{registers_after, stages_of, taken_at}, Sound.PlanParts}
use Rattle.plan_file.specs.declared.made.{Folded.Folded, Made.Made}
use Rattle.plan_loader.specs.{Meaning.{uses_in, wiring_in}, Parts.IsPlanFrom}

module _ (made : Made) (plan : PlanParts) (from : IsPlanFrom made plan) (i : ℕ) (one : Folded)
    (at : slice_get made.groups i ≡ Some one) where
  wiring_same : wiring_at plan i ≡ wiring_in one
  wiring_same =
      let none : GroupWiring = record { present = Number 0; keys = []; args = [] } in
      ap (λ ws. unwrap_or (slice_get ws i) none) from.wiring
      ∙ ap (λ w. unwrap_or w none) (slice_get-map wiring_in made.groups i ∙ ap (option_map wiring_in) at)

  pub uses_same : (packets : List (List ℕ)) → uses_taken 1 (map (taken plan i) packets) ≡ uses_in made one packets
  uses_same packets =
      let take : GroupWiring → List PlanOp → List ℕ → Option Taken = λ w ops words. taken_at w
      (registers_after ops words (stages_of ops)) in
      ap (λ w. uses_taken 1 (map (take w plan.ops) packets)) wiring_same
      ∙ ap (λ ops. uses_taken 1 (map (take (wiring_in one) ops) packets)) from.ops
