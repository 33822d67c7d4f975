-- Which queries and traces are accepted, and what a command writes: each definition has one case for each command.
use Rattle.std.specs.Prelude.{◌≡◌, ℕ, Bool, true, false, List, [], Option, None, is_some, Ok, Err, ⊤, if◌then◌else◌}
use Rattle.marple_base.specs.declared.{field.Packet.Packet, inputs.Which.{Which, TheVariants.{Query, Trace}}}
use Rattle.query_lang.specs.{declared.{fault.QueryFault.QueryFault, typed.TypedQuery.TypedQuery}, Checks.Checked}
use Rattle.trace_reader.specs.Traces as traces
use Rattle.trace_reader.specs.declared.fault.TraceFault.{TraceFault}
use Rattle.stage_plan.specs.{Fields.reads_of, Shape.{query_shape, plan_text_of}}
use Rattle.accepted_query.specs.{Accepted.{accepted, query_fault}, TrialQuery.trial_query}
use Rattle.query_run.specs.{Views.views_text, Driven.geometry_of}
use Rattle.query_tables.specs.Tables.{query_text}
use Rattle.trace_drive.specs.Drives.{words_of}
use Rattle.queue_sim.specs.{Generator.simulated, TraceText.trace_text}
use Rattle.command_line.specs.{Command.ways_number, declared.command.Command.Command}
use Rattle.command_line.specs.declared.command.Command.TheVariants.{Run, Plan, Gen, Trial, Net, Enclose, Compile, RunPlan}
use Rattle.command_line.specs.declared.{command.Generation.Generation, setting.{NetSetting.NetSetting, Setting.Setting, Ways.Ways}}
use Rattle.net_wide.specs.{Combining.net_fault, NetTables.net_text}
use Rattle.driven_net.specs.NetTraces.{net_packets, net_trace_fault}
use Rattle.enclosed_query.specs.EnclosedTables.{enclose_text}
use Rattle.plan_writer.specs.PlanText.{compiled_text, final_fault}
use Rattle.plan_file.specs.{Texts.{IsRefused, Says}, declared.made.Made.Made}
use Rattle.query_lang.specs.declared.error.QueryError.TheVariants.{Refused}
use Rattle.plan_loader.specs.Meaning.{plan_output, reads_in}
use Rattle.command_answers.specs.OwnChecks.{bounds_fault, fault_after, fault_with}

-- The text of the first operand, and where it is run as a plan, what its lines make or the fault for which it is refused.
pub record Source : Type 0 where
  pub text : List ℕ
  pub plan : Checked Made

-- the text of a plan says this, or it is refused for this fault
abbrev pub SaysPlan : List ℕ → Checked Made → Type 0
SaysPlan text (Ok made) = Says text made
SaysPlan text (Err fault) = IsRefused text (Refused fault)

-- The plan of a source is what its text says, where the command runs the text as a plan.
abbrev pub IsRead : Command → Source → Type 0
IsRead (RunPlan setting) source = SaysPlan source.text source.plan
IsRead command source = ⊤

-- Is this input an operand of the command?
abbrev pub takes : Command → Which → Bool
takes (Run setting every) which = true
takes (Plan ways) Query = true
takes (Plan ways) Trace = false
takes (Gen generation) which = false
takes (Trial generation setting) which = false
takes (Net setting) which = true
takes (Enclose setting) which = true
takes Compile Query = true
takes Compile Trace = false
takes (RunPlan setting) which = true

-- what is said of a query or a plan where it is accepted, and a fixed value where it is refused
abbrev pub of_accepted : {A X : Type 0} → A → (X → A) → Checked X → A
of_accepted refused say (Ok q) = say q
of_accepted refused say (Err fault) = refused

-- Why the command refuses its query, where it does: the query's first fault. Where there is none, `net` refuses a groupby
-- that doesn't combine, `enclose` one that has no bounds, and `compile` a final. The text of a plan is refused where it
-- isn't one.
abbrev pub refusal : Command → Source → Option QueryFault
refusal (Run setting every) query = query_fault query.text
refusal (Plan ways) query = query_fault query.text
refusal (Gen generation) query = None
refusal (Trial generation setting) query = None
refusal (Net setting) query = fault_with net_fault query.text
refusal (Enclose setting) query = fault_with bounds_fault query.text
refusal Compile query = fault_with final_fault query.text
refusal (RunPlan setting) query = fault_after (λ made. None) query.plan

-- the first fault of a trace's bytes for what a query reads; a query that is refused reads nothing
abbrev pub fault_for : Checked TypedQuery → List ℕ → Option TraceFault
fault_for (Ok q) trace = traces.trace_fault trace (reads_of q)
fault_for (Err fault) trace = None

-- Why the command refuses its trace, where it does: the trace's first fault for what the query or the plan reads. Over
-- several switches `switch` is always read, and more than 64 of them are a fault.
abbrev pub trace_refusal : Command → Source → List ℕ → Option TraceFault
trace_refusal (Run setting every) query trace = fault_for (accepted query.text) trace
trace_refusal (Plan ways) query trace = None
trace_refusal (Gen generation) query trace = None
trace_refusal (Trial generation setting) query trace = None
trace_refusal (Net setting) query trace = of_accepted None (net_trace_fault trace) (accepted query.text)
trace_refusal (Enclose setting) query trace = fault_for (accepted query.text) trace
trace_refusal Compile query trace = None
trace_refusal (RunPlan setting) query trace = of_accepted None (λ made. traces.trace_fault trace (reads_in made)) query.plan

-- The operands of the command are accepted.
pub record IsAccepted (command : Command) (query : Source) (trace : List ℕ) : Type 0 where
  pub by_query : refusal command query ≡ None
  pub by_trace : trace_refusal command query trace ≡ None

-- what a run of a query over these packets writes, with a view after every N of them
abbrev pub run_text : Setting → ℕ → Checked TypedQuery → (TypedQuery → List Packet) → List ℕ
run_text setting every (Ok q) packets = views_text (query_text q (geometry_of setting)) every (words_of (packets q))
run_text setting every (Err fault) packets = []

-- what a query prints over these packets
abbrev pub tables_text : Setting → Checked TypedQuery → (TypedQuery → List Packet) → List ℕ
tables_text setting (Ok q) packets = query_text q (geometry_of setting) (words_of (packets q))
tables_text setting (Err fault) packets = []

-- the text of a query's stages
abbrev pub stages_text : Ways → Checked TypedQuery → List ℕ
stages_text ways (Ok q) = plan_text_of (query_shape q) (ways_number ways)
stages_text ways (Err fault) = []

-- the packets of a trace for what the query reads
abbrev pub read_packets : List ℕ → TypedQuery → List Packet
read_packets trace q = traces.packets trace (reads_of q)

-- the packets that the generator makes with queues of 16 packets
abbrev pub made_packets : Generation → List Packet
made_packets generation = simulated generation.packets generation.start 16

-- what a query prints of a trace whose packets go through the caches of their switches
abbrev pub network_text : NetSetting → List ℕ → TypedQuery → List ℕ
network_text setting trace q = net_text q setting.buckets (ways_number setting.ways) (words_of (net_packets trace q))

-- what a query prints of a trace where bounds are asked for
abbrev pub enclosures_text : Setting → List ℕ → TypedQuery → List ℕ
enclosures_text setting trace q = enclose_text q (geometry_of setting) (words_of (read_packets trace q))

-- what a plan prints of a trace
abbrev pub plan_tables_text : Setting → List ℕ → Made → List ℕ
plan_tables_text setting trace made = plan_output made (geometry_of setting) (words_of (traces.packets trace (reads_in made)))

-- What the command writes where its operands are accepted.
abbrev pub output : Command → Source → List ℕ → List ℕ
output (Run setting every) query trace = run_text setting every (accepted query.text) (read_packets trace)
output (Plan ways) query trace = stages_text ways (accepted query.text)
output (Gen generation) query trace = trace_text (made_packets generation)
output (Trial generation setting) query trace = tables_text setting (accepted trial_query) (λ q. made_packets generation)
output (Net setting) query trace = of_accepted [] (network_text setting trace) (accepted query.text)
output (Enclose setting) query trace = of_accepted [] (enclosures_text setting trace) (accepted query.text)
output Compile query trace = of_accepted [] compiled_text (accepted query.text)
output (RunPlan setting) query trace = of_accepted [] (plan_tables_text setting trace) query.plan

-- the text that is defined for the command: nothing where the query or the trace is refused
abbrev pub defined_text : Command → Source → List ℕ → List ℕ
defined_text command query trace =
    if is_some (refusal command query) then [] else if is_some (trace_refusal command query trace) then [] else output command query trace
