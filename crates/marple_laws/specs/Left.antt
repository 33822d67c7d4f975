-- The machines and tables of the pipeline that a command leaves.
use Rattle.std.specs.Prelude.{◌≡◌, ℕ, List, length, map, Ok}
use Rattle.epoch_model.specs.{Epochs.Geometry, Machine.{Machine, end_of}}
use Rattle.final_queries.specs.declared.table.Table.{Table}
use Rattle.marple_base.specs.declared.field.Packet.{Packet}
use Rattle.query_lang.specs.declared.typed.TypedQuery.{TypedQuery}
use Rattle.accepted_query.specs.Accepted.{accepted}
use Rattle.query_run.specs.{Driven.geometry_of, PlanReports.numbered_print, QueryReports.query_print}
use Rattle.query_tables.specs.Tables.{group_tables, query_text}
use Rattle.command_line.specs.{Command.IsSetting, declared.setting.Setting.Setting}
use Rattle.plan_file.specs.{declared.made.Made.Made, Texts.Says}
use Rattle.plan_loader.specs.Meaning.{plan_output, plan_tables, reads_in, uses_in}
use Rattle.stage_plan.specs.Packets.{AreWhole}
use Rattle.switch_core.specs.PlanLanes.{PipelineStands, PipelineView}
use Rattle.trace_drive.specs.Drives.{words_of}
use Rattle.trace_reader.specs.Traces.{packets}
use Rattle.marple_cli.specs.Driven.{StandsForEnd, StandsForPlan}

-- the packets of a trace for what a text reads, each with its words
abbrev pub words_for : Made → List ℕ → List (List ℕ)
words_for made trace = words_of (packets trace (reads_in made))

-- the machines of a text's groups at the end of packets, by the uses that the text gives each group
abbrev pub text_ends : Made → Geometry → List (List ℕ) → List Machine
text_ends made g list = map (λ one. end_of g (uses_in made one list) (length list)) made.groups

-- The pipeline that a run of a plan leaves represents the machines of its text's groups, whatever plan it is of.
abbrev pub PlansStandForTheirTexts : Type 0
PlansStandForTheirTexts = (setting : Setting) (made : Made) (trace : List ℕ) (p : PipelineView)
    → StandsForPlan setting (Ok made) trace p → PipelineStands p (text_ends made (geometry_of setting) (words_for made trace))

-- These are the tables of the groupbys of a query that this pipeline represents at the end of packets, and what the query prints of
-- them is the text by which a run or a trial is defined.
abbrev pub AreTablesOfQuery : PipelineView → List Table → Type 0
AreTablesOfQuery p tables = (setting : Setting) (text : List ℕ) (q : TypedQuery) (list : TypedQuery → List Packet) → IsSetting setting
    → accepted text ≡ Ok q → AreWhole (words_of (list q)) → StandsForEnd setting (accepted text) list p
    → (tables ≡ group_tables q (geometry_of setting) (words_of (list q)))
    × (query_print q tables ≡ query_text q (geometry_of setting) (words_of (list q)))

-- The same of the groups of a plan's text that it represents at the end of a trace.
abbrev pub AreTablesOfPlan : PipelineView → List Table → Type 0
AreTablesOfPlan p tables = (setting : Setting) (text : List ℕ) (made : Made) (trace : List ℕ) → IsSetting setting → Says text made
    → StandsForPlan setting (Ok made) trace p
    → (tables ≡ plan_tables made (geometry_of setting) (words_for made trace))
    × (numbered_print made.prints tables ≡ plan_output made (geometry_of setting) (words_for made trace))
