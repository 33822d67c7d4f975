-- The tables that the lanes of a plan give at the end of packets.
use Rattle.std.specs.Prelude.{ℕ, List, map}
use Rattle.epoch_entry.specs.declared.purpose.Entries.{Entries}
use Rattle.epoch_model.specs.{Epochs.Geometry, Laws.HasRoom}
use Rattle.final_queries.specs.declared.table.Table.{Table}
use Rattle.stage_plan.specs.{Packets.AreWhole, Sound.{IsSoundPlan, PlanParts}}
use Rattle.switch_core.specs.{Pipelines.tables_of, PlanLanes.{AreLanesOf, LaneView, folding_at}, Ends.end_machines}

-- the tables that lanes of the plan give at the end of a trace whose packets have these words
abbrev pub end_tables : PlanParts → List LaneView → Geometry → List (List ℕ) → List Table
end_tables plan lanes g packets = tables_of plan.groups (map folding_at lanes) (end_machines plan g packets)

-- P holds of any packets, each with a word for each field, and the tables that lanes of the plan, with entries for this, give at their end.
abbrev pub AtEnds : Entries → PlanParts → (Geometry → List (List ℕ) → List Table → Type 0) → Type 0
AtEnds entries plan P = (buckets : ℕ) (lanes : List LaneView) (g : Geometry) (packets : List (List ℕ)) → IsSoundPlan plan
    → AreLanesOf entries plan buckets lanes → HasRoom g → AreWhole packets → P g packets (end_tables plan lanes g packets)
