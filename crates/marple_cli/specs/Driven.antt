-- The working parts that a run leaves.
use Rattle.std.specs.Prelude.{◌≡◌, ℕ, List, Option, Some, None, Ok, Err}
use Rattle.query_lang.specs.{declared.typed.TypedQuery.TypedQuery, Checks.Checked}
use Rattle.marple_base.specs.{Inputs.Input, declared.{field.Packet.Packet, inputs.Which.Which}}
use Rattle.stage_plan.specs.Planned.{IsPlanOf}
use Rattle.switch_core.specs.{PlanLanes.{PipelineView, PipelineStands}, Ends.end_machines}
use Rattle.query_run.specs.Runs.{query_ends}
use Rattle.trace_drive.specs.Drives.{words_of}
use Rattle.trace_reader.specs.Traces as traces
use Rattle.plan_file.specs.declared.made.Made.{Made}
use Rattle.plan_loader.specs.{Meaning.reads_in, Parts.IsPlanFrom}
use Rattle.accepted_query.specs.Accepted.{accepted}
use Rattle.command_line.specs.declared.{command.Command.{Command, TheVariants.{Run, RunPlan, Trial}}, setting.Setting.Setting}
use Rattle.query_run.specs.{Driven.{IsLeftBy, geometry_of, pipeline_in}, declared.driven.Driven.Driven}
use Rattle.command_answers.specs.declared.status.Status.{Status}
use Rattle.command_answers.specs.declared.status.Status.TheVariants as statuses
use Rattle.marple_cli.specs.{Call.ToldOf, Output.{read_packets, made_packets}}
use Rattle.accepted_query.specs.TrialQuery.{trial_query}

-- the pipeline is of a plan of the query, and represents the machines of the query's groupbys at the end of these packets
abbrev pub StandsForEnd : Setting → Checked TypedQuery → (TypedQuery → List Packet) → PipelineView → Type 0
StandsForEnd setting (Ok q) packets p = IsPlanOf q p.plan × PipelineStands p (query_ends q (geometry_of setting) (words_of (packets q)))
StandsForEnd setting (Err fault) packets p = ⊥

-- the pipeline is of a plan of what the text says, and represents the machines of its groups at the end of the packets that
-- the trace has for what the plan reads
abbrev pub StandsForPlan : Setting → Checked Made → List ℕ → PipelineView → Type 0
StandsForPlan setting (Ok made) trace p = IsPlanFrom made p.plan
    × PipelineStands p (end_machines p.plan (geometry_of setting) (words_of (traces.packets trace (reads_in made))))
StandsForPlan setting (Err fault) trace p = ⊥

-- The working parts of a run are there, in the variant of its ways and with the setting's sizes: they are empty, and
-- this holds of their pipeline.
abbrev pub IsDriven : Setting → Option Driven → (PipelineView → Type 0) → Type 0
IsDriven setting None P = ⊥
IsDriven setting (Some driven) P = IsLeftBy setting driven × P (pipeline_in driven)

-- What a command that answers Ok leaves of the working parts. Of a run, a trial and a run of a plan they are there, and
-- where the bytes of the inputs are known they are the machines at the trace's end; every other command leaves them
-- unchanged.
abbrev pub Leaves : Command → (Which → Input) → Option Driven → Option Driven → Type 0
Leaves (Run setting every) before old new =
    IsDriven setting new (λ p. ToldOf (Run setting every) before
    (λ query trace. StandsForEnd setting (accepted query.text) (read_packets trace) p))
Leaves (Trial generation setting) before old new =
    IsDriven setting new (λ p. StandsForEnd setting (accepted trial_query) (λ q. made_packets generation) p)
Leaves (RunPlan setting) before old new = IsDriven setting new
    (λ p. ToldOf (RunPlan setting) before (λ query trace. StandsForPlan setting query.plan trace p))
Leaves command before old new = new ≡ old

-- The working parts after a call. Only a command that answers Ok changes them.
abbrev pub DrivenAfter : Option Command → (Which → Input) → Option Driven → Option Driven → Status → Type 0
DrivenAfter (Some command) before old new statuses.Ok = Leaves command before old new
DrivenAfter asked before old new status = new ≡ old
