-- What a plan that was read prints of the tables of its groups.
use Rattle.std.specs.Prelude.{◌≡◌, ◌<◌, ◌≤◌, ℕ, List, All, flat_map, length}
use Rattle.epoch_entry.specs.declared.purpose.Entries.TheVariants.{Folds}
use Rattle.epoch_model.specs.{Epochs.Geometry, Laws.HasRoom}
use Rattle.final_queries.specs.declared.table.Table.{Table}
use Rattle.plan_file.specs.declared.made.Made.{Made}
use Rattle.plan_loader.specs.{Meaning.plan_tables, Parts.{IsPlanFrom, IsSoundMade}}
use Rattle.query_run.specs.EndTables.{end_tables}
use Rattle.query_tables.specs.Tables.{table_text_at}
use Rattle.stage_plan.specs.Sound.{PlanParts}
use Rattle.switch_core.specs.PlanLanes.{AreLanesOf, LaneView}

-- a table has at least as many columns as keys
abbrev pub HasKeys : Table → Type 0
HasKeys table = table.keys ≤ length table.columns

-- there is a table for each of the numbers, and each table has its keys
pub record HaveNumbers (numbers : List ℕ) (tables : List Table) : Type 0 where
  pub within : All (λ number. number < length tables) numbers
  pub keys : All HasKeys tables

-- the texts of the tables with these numbers, in order
abbrev pub numbered_print : List ℕ → List Table → List ℕ
numbered_print numbers tables = flat_map (table_text_at tables) numbers

-- The tables of a plan's machines at the end of packets are those that its text means.
abbrev pub EndsAreTheTexts : Type 0
EndsAreTheTexts = (made : Made) (plan : PlanParts) (buckets : ℕ) (lanes : List LaneView) (g : Geometry)
    (packets : List (List ℕ)) → IsSoundMade made → IsPlanFrom made plan → AreLanesOf Folds plan buckets lanes → HasRoom g
    → end_tables plan lanes g packets ≡ plan_tables made g packets
