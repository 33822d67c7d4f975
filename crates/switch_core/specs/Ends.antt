-- The machines at the end of a trace.
use Rattle.std.specs.Prelude.{ℕ, suc, List, [], ◌∷◌, length, map}
use Rattle.epoch_model.specs.{Driving.uses_taken, Epochs.{Use, Geometry}, Machine.{Machine, end_of}}
use Rattle.stage_plan.specs.{declared.group.GroupPlan.GroupPlan, Planned.taken, Sound.PlanParts}

-- what the groupby with this number takes of packets with these words, which have the numbers from 1 on
abbrev pub uses_by : PlanParts → ℕ → List (List ℕ) → List Use
uses_by plan i words = uses_taken 1 (map (taken plan i) words)

-- one machine for each of the groupbys, which have the numbers from this one on
abbrev pub ends_from : PlanParts → Geometry → List (List ℕ) → ℕ → List GroupPlan → List Machine
ends_from plan g words i [] = []
ends_from plan g words i (group ∷ groups) = end_of g (uses_by plan i words) (length words) ∷ ends_from plan g words (suc i) groups

-- The machine of each groupby of the plan at the end of a trace whose packets have these words.
abbrev pub end_machines : PlanParts → Geometry → List (List ℕ) → List Machine
end_machines plan g words = ends_from plan g words 0 plan.groups
