-- Which events the lanes of a pipeline make for a packet.
use Rattle.std.specs.Prelude.{◌≡◌, ℕ, suc, Bool, true, false, List, [], ◌∷◌, ◌++◌, if◌then◌else◌}
use Rattle.epoch_model.specs.{Epochs.is_refresh, Machine.Event}
use Rattle.switch_core.specs.{Pipelines.packet_events, PlanLanes.{PipelineMakes, PipelineView, upkeeps_at}}
use Rattle.switch_core.specs.declared.upkeep.Upkeep.TheVariants as due

-- a merge of the lane with this number, where the lag is over
abbrev pub lag_at : Bool → PipelineView → ℕ → List Event
lag_at lag_over p n = if lag_over then upkeeps_at due.Lag p.lanes n else []

-- a packet with these words and the merges around it: one of a lane whose pipe is full, and then, where the lag is over, one of each lane
abbrev pub turn_at : List ℕ → Bool → PipelineView → ℕ → List Event
turn_at words lag_over p n = upkeeps_at due.Room p.lanes n ++ (packet_events p.plan words n ++ lag_at lag_over p n)

-- The pipeline makes the events of a packet, and no others: where a refresh is due, a sweep comes between the packet and the lag.
abbrev pub MakesTurn : ℕ → List ℕ → Bool → Bool → PipelineView → PipelineView → Type 0
MakesTurn ways words false lag_over old new = PipelineMakes ways (turn_at words lag_over old) old new
MakesTurn ways words true lag_over old new = (packed swept : PipelineView) × PipelineMakes ways (turn_at words false old) old packed
    × PipelineMakes ways (upkeeps_at due.Sweep packed.lanes) packed swept × PipelineMakes ways (lag_at lag_over swept) swept new

-- The turns of packets with these words, which have the numbers from this one on, with a sweep at each multiple of the refresh and merges
-- at each multiple of the lag.
abbrev pub MakesTurns : ℕ → ℕ → ℕ → ℕ → List (List ℕ) → PipelineView → PipelineView → Type 0
MakesTurns ways refresh lag number [] old new = new ≡ old
MakesTurns ways refresh lag number (words ∷ packets) old new = (middle : PipelineView)
    × MakesTurn ways words (is_refresh refresh number) (is_refresh lag number) old middle
    × MakesTurns ways refresh lag (suc number) packets middle new

-- After the last packet there is a sweep, and then merges until each pipe is empty, and no other event.
abbrev pub Drains : ℕ → PipelineView → PipelineView → Type 0
Drains ways old new = (swept : PipelineView) × PipelineMakes ways (upkeeps_at due.Sweep old.lanes) old swept
    × PipelineMakes ways (upkeeps_at due.Rest swept.lanes) swept new

-- All packets with these words take their turns, from the first one on, and then the pipeline is drained.
abbrev pub RunsInTurns : ℕ → ℕ → ℕ → List (List ℕ) → PipelineView → PipelineView → Type 0
RunsInTurns ways refresh lag packets old new = (last : PipelineView) × MakesTurns ways refresh lag 1 packets old last × Drains ways last new
