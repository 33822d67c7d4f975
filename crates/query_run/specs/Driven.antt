-- What a run with the setting of a command line leaves.
use Rattle.std.specs.{Prelude.{◌≡◌, ℕ, true}, List.list_all}
use Rattle.stage_plan.specs.Packets.{AreWhole}
use Rattle.command_line.specs.{Command.ways_number, declared.setting.{Setting.Setting, Ways.Ways}}
use Rattle.command_line.specs.declared.setting.Ways.TheVariants.{One, Two, Four, Eight, Sixteen, ThirtyTwo}
use Rattle.query_run.specs.declared.driven.Driven.{Driven, TheVariants.{Ways1, Ways2, Ways4, Ways8, Ways16, Ways32}}
use Rattle.epoch_entry.specs.declared.purpose.Entries.{Entries, TheVariants.Folds}
use Rattle.epoch_model.specs.Epochs.{Geometry}
use Rattle.queue_sim.specs.Generator.{simulated}
use Rattle.switch_core.specs.PlanLanes.{HavePlaces, PipelineView, lane_is_drained}
use Rattle.trace_drive.specs.Drives.{words_of}

-- the buckets and ways of each cache, and the number of packets after which it is emptied each time; the pipe's size and the
-- lag are no part of it
abbrev pub geometry_of : Setting → Geometry
geometry_of setting = record { buckets = setting.buckets; ways = ways_number setting.ways; refresh = setting.refresh }

abbrev pub ways_in : Driven → Ways
ways_in (Ways1 p) = One
ways_in (Ways2 p) = Two
ways_in (Ways4 p) = Four
ways_in (Ways8 p) = Eight
ways_in (Ways16 p) = Sixteen
ways_in (Ways32 p) = ThirtyTwo

abbrev pub pipeline_in : Driven → PipelineView
pipeline_in (Ways1 p) = p
pipeline_in (Ways2 p) = p
pipeline_in (Ways4 p) = p
pipeline_in (Ways8 p) = p
pipeline_in (Ways16 p) = p
pipeline_in (Ways32 p) = p

-- the caches have the setting's ways and buckets and entries for this purpose, the pipes the setting's places, and caches and
-- pipes are empty
pub record IsLeftWith (purpose : Entries) (setting : Setting) (driven : Driven) : Type 0 where
  pub ways : ways_in driven ≡ setting.ways
  pub entries : (pipeline_in driven).entries ≡ purpose
  pub buckets : (pipeline_in driven).buckets ≡ setting.buckets
  pub places : HavePlaces setting.pipe (pipeline_in driven).lanes
  pub drained : list_all lane_is_drained (pipeline_in driven).lanes ≡ true

-- the same, with entries for folds
abbrev pub IsLeftBy : Setting → Driven → Type 0
IsLeftBy setting driven = IsLeftWith Folds setting driven

-- The packets that the generator makes have the words of all fields.
abbrev pub MadePacketsAreWhole : Type 0
MadePacketsAreWhole = (packets start capacity : ℕ) → AreWhole (words_of (simulated packets start capacity))
