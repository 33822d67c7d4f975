-- Placements of operations in stages, apart from the one that a plan has.
use Rattle.std.specs.Prelude.{◌≡◌, ℕ, ◌<◌, List, length, All, slice_get, slice_index}
use Rattle.stage_plan.specs.{declared.op.PlanOp.PlanOp, Sound.Follows}

-- a stage for each operation, from 1 on, which comes after the stage of each operation that it reads
pub record IsPlacement (ops : List PlanOp) (stages : List ℕ) : Type 0 where
  pub all : length stages ≡ length ops
  pub some : All (λ stage. 0 < stage) stages
  pub beyond : (i number : ℕ) → i < length ops → Follows (slice_get ops i) number → slice_index stages number < slice_index stages i
