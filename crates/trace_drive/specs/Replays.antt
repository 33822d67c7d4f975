-- A trace on its way through a pipeline, and how far it comes.
use Rattle.std.specs.Prelude.{◌≡◌, ◌+◌, ◌<◌, ◌≤◌, ℕ, suc, List, length, take, drop, Option}
use Rattle.epoch_model.specs.Machine.{after_packets}
use Rattle.marple_base.specs.declared.field.Packet.{Packet}
use Rattle.switch_core.specs.{PlanLanes.{PipelineView, PipelineStands}, Ends.{end_machines, uses_by}}
use Rattle.trace_drive.specs.{Clocks.HasCounted, Drives.{coming, fault_of, geometry_for, words_of}}
use Rattle.trace_drive.specs.{Follows.FollowsBy, Turns.{Drains, MakesTurns}, declared.{replay.Replay.Replay, schedule.Schedule.Schedule}}
use Rattle.trace_reader.specs.declared.fault.TraceFault.{TraceFault}

-- the pipeline, as it is after the packets that were taken
abbrev pub replay_pipeline : {ways : ℕ} → Replay ways → PipelineView
replay_pipeline replay = replay.pipeline

-- the fault after the packets
abbrev pub replay_fault : {ways : ℕ} → Replay ways → Option TraceFault
replay_fault replay = fault_of replay.packets

-- Of all packets of a trace this many were taken: the lanes are as far as the machines after them, the clocks have
-- counted them, and the others are still to come.
pub record IsUnderWay {ways : ℕ} (schedule : Schedule) (all : List Packet) (count : ℕ) (replay : Replay ways) : Type 0 where
  pub within : count ≤ length all
  pub rest : coming replay.packets ≡ drop count all
  pub buckets : replay.pipeline.buckets ≡ schedule.buckets
  pub follows : FollowsBy (λ i. after_packets (geometry_for ways schedule)
      (uses_by replay.pipeline.plan i (words_of all)) count) replay.pipeline
  pub refreshes : HasCounted count replay.refreshes
  pub lags : HasCounted count replay.lags
  pub refresh : replay.refreshes.every ≡ schedule.refresh
  pub lag : replay.lags.every ≡ schedule.lag

-- some packets of some trace were taken
abbrev pub IsOnItsWay : {ways : ℕ} → Replay ways → Type 0
IsOnItsWay replay = (schedule : Schedule) × (all : List Packet) × (count : ℕ) × IsUnderWay schedule all count replay

-- This many more packets were taken.
abbrev pub Advances : {ways : ℕ} → ℕ → Replay ways → Replay ways → Type 0
Advances more old new = (schedule : Schedule) (all : List Packet) (count : ℕ) → IsUnderWay schedule all count old
    → IsUnderWay schedule all (count + more) new

-- The pipeline made the turns of this many more packets, and no other events.
abbrev pub MakesTheirTurns : {ways : ℕ} → ℕ → Replay ways → Replay ways → Type 0
MakesTheirTurns {ways} more old new = (schedule : Schedule) (all : List Packet) (count : ℕ) → IsUnderWay schedule all count old
    → MakesTurns ways schedule.refresh schedule.lag (suc count) (words_of (take more (drop count all))) (replay_pipeline old)
    (replay_pipeline new)

-- The pipeline made the turns of all packets that were left, and no other events.
abbrev pub MakesAllTurns : {ways : ℕ} → Replay ways → PipelineView → Type 0
MakesAllTurns {ways} old new = (schedule : Schedule) (all : List Packet) (count : ℕ) → IsUnderWay schedule all count old
    → MakesTurns ways schedule.refresh schedule.lag (suc count) (words_of (drop count all)) (replay_pipeline old) new

-- It made them, and then was drained.
abbrev pub EndsInTurns : {ways : ℕ} → Replay ways → PipelineView → Type 0
EndsInTurns {ways} old new = (last : PipelineView) × MakesAllTurns old last × Drains ways last new

-- Some first packets of a trace were taken, each with its turn, since the pipeline was this one.
abbrev pub HasTaken : {ways : ℕ} → Schedule → List Packet → PipelineView → Replay ways → Type 0
HasTaken {ways} schedule all first replay = (count : ℕ) × IsUnderWay schedule all count replay
    × MakesTurns ways schedule.refresh schedule.lag 1 (words_of (take count all)) first (replay_pipeline replay)

-- All packets that were left were taken, which were fewer than this number.
abbrev pub TakesTheRest : {ways : ℕ} → ℕ → Replay ways → Replay ways → Type 0
TakesTheRest most old new =
    (schedule : Schedule) (all : List Packet) (count : ℕ) → IsUnderWay schedule all count old
    → (length all < count + most) × IsUnderWay schedule all (length all) new

-- The pipeline represents the machines at the end of all packets of the trace.
abbrev pub ReachesTheEnd : {ways : ℕ} → Replay ways → PipelineView → Type 0
ReachesTheEnd {ways} replay pipeline =
    (schedule : Schedule) (all : List Packet) (count : ℕ) → IsUnderWay schedule all count replay
    → PipelineStands pipeline (end_machines pipeline.plan (geometry_for ways schedule) (words_of all))
