-- When the lanes of a pipeline are as far as the machines of a trace.
use Rattle.std.specs.Prelude.{◌≡◌, ℕ, suc, List, [], ◌∷◌, length}
use Rattle.epoch_model.specs.{Laws.SameEpochs, Machine.Machine}
use Rattle.switch_core.specs.PlanLanes.{PipelineStands, PipelineView, pipe_places}

-- the machines have the epochs of those with the numbers from this one on
abbrev pub AlikeFrom : (ℕ → Machine) → ℕ → List Machine → Type 0
AlikeFrom after i [] = Unit {0}
AlikeFrom after i (m ∷ machines) = SameEpochs m (after i) × AlikeFrom after (suc i) machines

-- Each lane represents a machine with the epochs of that of its number; how many of them are merged is left open.
pub record FollowsBy (after : ℕ → Machine) (pipeline : PipelineView) : Type 0 where
  pub machines : List Machine
  pub stands : PipelineStands pipeline machines
  pub alike : AlikeFrom after 0 machines

-- The plan, what the entries are for, the number of buckets, the number of lanes and the places of each lane's pipe are unchanged.
pub record Keeps (old new : PipelineView) : Type 0 where
  pub plan : new.plan ≡ old.plan
  pub entries : new.entries ≡ old.entries
  pub buckets : new.buckets ≡ old.buckets
  pub lanes : length new.lanes ≡ length old.lanes
  pub places : pipe_places new.lanes ≡ pipe_places old.lanes
