-- What a report prints of the tables of a plan's groupbys.
use Rattle.std.specs.Prelude.{◌≡◌, ℕ, List}
use Rattle.epoch_entry.specs.declared.purpose.Entries.{Entries}
use Rattle.epoch_entry.specs.declared.purpose.Entries.TheVariants as entries
use Rattle.epoch_model.specs.Epochs.{Geometry}
use Rattle.final_queries.specs.declared.table.Table.{Table}
use Rattle.stage_plan.specs.Sound.{PlanParts}
use Rattle.query_run.specs.{BoundsReports.{AreBoundsTables, bounds_print}, EndTables.AtEnds, PlanReports.{HaveNumbers, numbered_print}}
use Rattle.query_run.specs.{QueryReports.{AreGroupTables, query_print}, declared.report.Report.{Report, TheVariants.{Query, Bounds, Plan}}}

-- what the entries of the pipeline are for
abbrev pub entries_for : Report → Entries
entries_for (Query typed) = entries.Folds
entries_for (Bounds typed) = entries.Bounds
entries_for (Plan prints) = entries.Folds

-- The report can print these tables of the groupbys.
abbrev pub CanPrint : Report → List Table → Type 0
CanPrint (Query typed) tables = AreGroupTables typed tables
CanPrint (Bounds typed) tables = AreBoundsTables typed tables
CanPrint (Plan prints) tables = HaveNumbers prints tables

-- what the report prints of these tables
abbrev pub printed_by : Report → List Table → List ℕ
printed_by (Query typed) tables = query_print typed tables
printed_by (Bounds typed) tables = bounds_print typed tables
printed_by (Plan prints) tables = numbered_print prints tables

-- All of the plan's tables at an end are such that the report can print them.
abbrev pub MayPrint : Report → PlanParts → Type 0
MayPrint report plan = AtEnds (entries_for report) plan (λ g packets tables. CanPrint report tables)

-- What the report prints of the plan's tables at an end is this text over the packets.
pub record Prints (report : Report) (plan : PlanParts) (text : Geometry → List (List ℕ) → List ℕ) : Type 0 where
  pub at_ends : AtEnds (entries_for report) plan (λ g packets tables. printed_by report tables ≡ text g packets)

-- Of the plan's tables at an end the report can print all, and what it prints is this text over the packets.
pub record Reports (report : Report) (plan : PlanParts) (text : Geometry → List (List ℕ) → List ℕ) : Type 0 where
  pub may_print : MayPrint report plan
  pub prints : Prints report plan text
