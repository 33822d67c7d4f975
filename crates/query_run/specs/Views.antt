-- What a run with views writes.
use Rattle.std.specs.Prelude.{◌≡◌, ◌==◌, ◌&&◌, ◌%◌, ◌≤◌, ℕ, zero, suc, Bool, nat_lt, List, [], ◌∷◌, ◌++◌, length, take, None, codes}
use Rattle.std.specs.Prelude.{decimal, if◌then◌else◌}
use Rattle.epoch_model.specs.{Epochs.Geometry, Laws.HasRoom, Machine.after_packets}
use Rattle.stage_plan.specs.Packets.{AreWhole}
use Rattle.switch_core.specs.{PlanLanes.PipelineView, Ends.uses_by}
use Rattle.trace_drive.specs.{Drives.{coming, fault_of}, Follows.FollowsBy, declared.packets.Packets.Packets}
use Rattle.trace_reader.specs.declared.fault.TheConstants.{MAX_RECORDS}

-- the first line of the view after this number of packets
abbrev pub view_line : ℕ → List ℕ
view_line number = codes "view " ++ decimal number ++ 10 ∷ []

-- The view after this number of packets, where this text is printed over packets: its line, and the text over these packets
-- alone.
abbrev pub view_text : (List (List ℕ) → List ℕ) → List (List ℕ) → ℕ → List ℕ
view_text text packets number = view_line number ++ text (take number packets)

-- a view is due after the packet with this number: it is a multiple of `every`; none is due where that is 0
abbrev pub is_view : ℕ → ℕ → Bool
is_view every number = nat_lt 0 every && (number % every == 0)

-- the views after the packets up to this number, in order
unfoldable pub views_up_to : (List (List ℕ) → List ℕ) → ℕ → List (List ℕ) → ℕ → List ℕ
views_up_to text every packets zero = []
views_up_to text every packets (suc number) =
    views_up_to text every packets number ++ (if is_view every (suc number) then view_text text packets (suc number) else [])

-- What a run writes, where this text is printed over packets: a view after each packet whose number is a multiple of `every`,
-- and at the end the text over all packets.
unfoldable pub views_text : (List (List ℕ) → List ℕ) → ℕ → List (List ℕ) → List ℕ
views_text text every packets = views_up_to text every packets (length packets) ++ text packets

-- Views of these packets may be asked for: no fault comes after them, and they are no more than a trace may have.
pub record CanBeViewed (packets : Packets) : Type 0 where
  pub sound : fault_of packets ≡ None
  pub few : length (coming packets) ≤ MAX_RECORDS

-- The lanes of a pipeline are as far as the machines of its plan after this number of these packets.
pub record IsAsFarAs (g : Geometry) (packets : List (List ℕ)) (number : ℕ) (pipeline : PipelineView) : Type 0 where
  pub room : HasRoom g
  pub whole : AreWhole packets
  pub within : number ≤ length packets
  pub follows : FollowsBy (λ i. after_packets g (uses_by pipeline.plan i packets) number) pipeline

-- Where no number is given for views, a run writes the text over all packets, and nothing else.
abbrev pub NoViewsWithoutNumber : Type 0
NoViewsWithoutNumber = (text : List (List ℕ) → List ℕ) (packets : List (List ℕ)) → views_text text 0 packets ≡ text packets
