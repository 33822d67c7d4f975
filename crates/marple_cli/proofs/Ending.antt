-- How commands end: what each status says, and why it does.
use Rattle.std.proofs.Common.{◌≡◌, ℕ, true, List, [], Option, None, Some, IfSome, Result, Ok, Err, refl, sym, ap, ap₂, ◌∙◌, subst}
use Rattle.std.{proofs.Common.if◌then◌else◌, specs.{Prelude.is_some, Result.IsErrAnd, Io.KnownBytes.Appends}}
use Rattle.marple_base.specs.{Inputs.Input, Sink.TakesFront, declared.inputs.Which.{Which, TheVariants.{Query, Trace}}}
use Rattle.query_lang.specs.declared.{fault.QueryFault.QueryFault, typed.TypedQuery.TypedQuery}
use Rattle.stage_plan.specs.{Fields.reads_of, Packets.AreWhole, Planned.IsPlanOf, Shape.{query_shape, plan_text_of}, Sound.PlanParts}
use Rattle.trace_reader.specs.Traces as traces
use Rattle.trace_reader.specs.declared.fault.TraceFault.{TraceFault}
use Rattle.switch_core.specs.Ends.{end_machines}
use Rattle.trace_drive.specs.{Answers.text_unless, Drives.words_of, declared.answer.RunError.RunError}
use Rattle.trace_drive.specs.declared.answer.RunError.TheVariants as breaks
use Rattle.trace_drive.proofs.{Breaking.nothing_taken, WholePackets.read_whole}
use Rattle.query_run.specs.{Runs.query_ends, Driven.{IsLeftBy, geometry_of, pipeline_in}, declared.driven.Driven.Driven}
use Rattle.query_run.proofs.QueryEnds.{machines_are}
use Rattle.switch_core.specs.PlanLanes.{PipelineStands, PipelineView}
use Rattle.accepted_query.specs.{Accepted.{accepted, query_fault, fault_in}, TrialQuery.trial_query}
use Rattle.command_line.specs.{Command.ways_number, declared.command.Command.{Command, TheVariants.{Run, Plan, Trial}}}
use Rattle.command_line.specs.declared.{command.Generation.Generation, setting.{Setting.Setting, Ways.Ways}}
use Rattle.marple_cli.specs.{Call.ToldOf, Driven.{DrivenAfter, Leaves, StandsForEnd}, Ends.{Ends, QueryTold, status_of}, Output.IsAccepted}
use Rattle.marple_cli.specs.Output.{IsRead, Source, defined_text, output, read_packets, refusal, stages_text, tables_text, made_packets}
use Rattle.marple_cli.specs.Output.{takes, trace_refusal}
use Rattle.command_answers.specs.{Phases.{OperandEnds, QueryEnds, TraceEnds, WriteEnds, status_for}, OwnChecks.{fault_after, fault_with}}
use Rattle.command_answers.specs.declared.status.Status.{Status}
use Rattle.command_answers.specs.declared.status.Status.TheVariants as statuses

-- a fact about the bytes of an input, where they are known
pub told : {A : Type 0} (P : A → Type 0) (left : Option A) (x : A) → IfSome left P → left ≡ Some x → P x
told P left x known is = subst (λ one. IfSome one P) is known

status_is : (result : Result (Unit {0}) Status) (status : Status) → IsErrAnd result (λ found. found ≡ status) → status_of result ≡ status
status_is (Ok done) status is = absurd is
status_is (Err found) status is = is

-- the query of a command that refuses what isn't accepted was accepted
pub query_told : (command : Command) (before : Which → Input) (found : TypedQuery)
    → ((query : Source) → refusal command query ≡ query_fault query.text)
    → IfSome (before Query).left (λ query. accepted query ≡ Ok found) → QueryTold command before (λ query. refusal command query ≡ None)
query_told command before found by known query takes is read = by query
    ∙ ap fault_in (told (λ text. accepted text ≡ Ok found) (before Query).left query.text known is)

-- the same for a command with a check of its own, which found no fault in this query
pub query_fits : (command : Command) (own : TypedQuery → Option QueryFault) (before : Which → Input) (found : TypedQuery)
    → ((query : Source) → refusal command query ≡ fault_with own query.text)
    → IfSome (before Query).left (λ query. accepted query ≡ Ok found) → own found ≡ None
    → QueryTold command before (λ query. refusal command query ≡ None)
query_fits command own before found by known none query takes is read =
    by query ∙ ap (fault_after own) (told (λ text. accepted text ≡ Ok found) (before Query).left query.text known is) ∙ none

-- where the text is what the command writes of accepted operands
abbrev pub IsText : Command → (Which → Input) → List ℕ → Type 0
IsText command before text = ToldOf command before (λ query trace. IsAccepted command query trace × (text ≡ output command query trace))

-- where the query is accepted, the text is defined by the trace's fault
defined_is : (command : Command) (query : Source) (trace : List ℕ) (fault : Option TraceFault) (text : List ℕ)
    → refusal command query ≡ None → trace_refusal command query trace ≡ fault → output command query trace ≡ text
    → defined_text command query trace ≡ text_unless fault text
defined_is command query trace fault text accepts same is = parted (refusal command query) (trace_refusal command query trace)
    (output command query trace) accepts ∙ ap₂ text_unless same is
  where
    parted : (r : Option QueryFault) (f : Option TraceFault) (t : List ℕ) → r ≡ None
        → (if is_some r then [] else if is_some f then [] else t) ≡ text_unless f t
    parted None None t e = refl
    parted None (Some found) t e = refl
    parted (Some found) f t e = absurd (some_none e)
      where
        some_none : {x : QueryFault} → Some x ≡ None → ⊥
        some_none e = cc

-- what a status says of a command, from which it can be found of which command, inputs and output
pub record Ended {O : Type 0} (taken : O → Option (List ℕ)) (faults : O → ℕ) (command : Command) (before after : Which → Input)
    (old new : O) (status : Status) : Type 0 where
  pub ends : Ends taken faults command before after old new status

module _ {O : Type 0} (taken : O → Option (List ℕ)) (faults : O → ℕ) (command : Command) (before after : Which → Input) where
  -- the status of an answer that hands it on
  pub handed_on : (old new : O) (result : Result (Unit {0}) Status) (status : Status) → IsErrAnd result (λ found. found ≡ status)
      → Ended taken faults command before after old new status → Ends taken faults command before after old new (status_of result)
  handed_on old new result status is ended =
      subst (Ends taken faults command before after old new) (sym (status_is result status is)) ended.ends

  nothing_written : (out : O) → after Trace ≡ before Trace → Ends taken faults command before after out out statuses.Memory
  nothing_written out kept = (λ query trace holds. nothing_taken (taken out) _, λ query takes is read refused. (refl, kept))

  pub memory_ended : (out : O) → after Trace ≡ before Trace → Ended taken faults command before after out out statuses.Memory
  memory_ended out kept = record { ends = nothing_written out kept }

  -- the first operand wasn't read, or it was refused: each such fault of its text is the one for which the command refuses it
  module _ (Refuses : List ℕ → QueryFault → Type 0) (by : (query : Source) (fault : QueryFault) → IsRead command query
      → Refuses query.text fault → refusal command query ≡ Some fault)
      (out : O) (has : takes command Query ≡ true) (kept : after Trace ≡ before Trace) where
    by_operand : (status : Status) → OperandEnds Refuses (before Query) (after Query) status
        → Ends taken faults command before after out out status
    by_operand statuses.Memory ended = nothing_written out kept
    by_operand (statuses.InputFault Query) ended = (has, ended, kept, refl)
    by_operand (statuses.QueryRefused fault) ended = (
      has,
      λ query t is read. by query fault read (told (λ text. Refuses text fault) (before Query).left query.text ended is),
      kept,
      refl,
    )
    by_operand _ ended = absurd ended

    pub operand_ended : (status : Status) → OperandEnds Refuses (before Query) (after Query) status
        → Ended taken faults command before after out out status
    operand_ended status ended = record { ends = by_operand status ended }

  -- the same for the text of a query with these faults
  pub query_ended : (fault : List ℕ → Option QueryFault) → ((query : Source) → refusal command query ≡ fault query.text) → (out : O)
      → takes command Query ≡ true → after Trace ≡ before Trace → (status : Status) → QueryEnds fault (before Query) (after Query) status
      → Ended taken faults command before after out out status
  query_ended fault same = operand_ended (λ text found. fault text ≡ Some found) (λ query found read refused. same query ∙ refused)

  module _ (old new : O) (accepts : QueryTold command before (λ query. refusal command query ≡ None)) where
    -- a command whose text is known before it is written
    module _ (text : List ℕ) (is_text : IsText command before text) where
      pub all_written : Appends (taken old) (taken new) text → Ends taken faults command before after old new statuses.Ok
      all_written whole = (
        accepts,
        λ query trace holds. let is = is_text query trace holds in record
            { accepted = is.0; whole = subst (Appends (taken old) (taken new)) is.1 whole },
      )

      by_writing : (status : Status) → WriteEnds taken faults text old new status → Ends taken faults command before after old new status
      by_writing statuses.Memory ended = (
        λ query trace holds.
            let is = is_text query trace holds in
            subst (TakesFront (taken old) (taken new)) (sym (defined_is command query trace None text is.0.by_query is.0.by_trace
            (sym is.1))) ended,
        λ query has is read refused. absurd (refused (accepts query has is read)),
      )
      by_writing statuses.OutputFault ended = (
        ended.0,
        accepts,
        λ query trace holds. let is = is_text query trace holds in record
            { accepted = is.0; front = subst (TakesFront (taken old) (taken new)) is.1 ended.1 },
      )
      by_writing _ ended = absurd ended

      pub writing_ended : (status : Status) → WriteEnds taken faults text old new status
          → Ended taken faults command before after old new status
      writing_ended status ended = record { ends = by_writing status ended }

    -- a command with a trace: these are the faults for which it refuses the trace, and the text that it writes for it
    module _ (fault : List ℕ → Option TraceFault) (text : List ℕ → List ℕ) (has_query : takes command Query ≡ true)
        (has_trace : takes command Trace ≡ true)
        (same : ToldOf command before (λ query trace. (trace_refusal command query trace ≡ fault trace)
        × (output command query trace ≡ text trace))) where
      told_trace : (P : List ℕ → Type 0) → IfSome (before Trace).left P → ToldOf command before (λ query trace. P trace)
      told_trace P known query trace holds = told P (before Trace).left trace known (holds.of_trace has_trace)

      accepted_query : ToldOf command before (λ query trace. refusal command query ≡ None)
      accepted_query query trace holds = accepts query has_query (holds.of_query has_query) holds.read

      pub trace_written : IfSome (before Trace).left (λ trace. fault trace ≡ None)
          → IfSome (before Trace).left (λ trace. Appends (taken old) (taken new) (text trace))
          → Ends taken faults command before after old new statuses.Ok
      trace_written sound whole = (
        accepts,
        λ query trace holds. record {
          accepted = record {
            by_query = accepted_query query trace holds;
            by_trace = (same query trace holds).0 ∙ told_trace (λ trace. fault trace ≡ None) sound query trace holds;
          };
          whole = subst (Appends (taken old) (taken new)) (sym (same query trace holds).1)
              (told_trace (λ trace. Appends (taken old) (taken new) (text trace)) whole query trace holds);
        },
      )

      pub by_trace : (status : Status) → TraceEnds taken faults fault text (before Trace) (after Trace) old new status
          → Ends taken faults command before after old new status
      by_trace statuses.Memory ended = (
        λ query trace holds. subst (TakesFront (taken old) (taken new)) (sym (defined_is command query trace (fault trace) (text trace)
            (accepted_query query trace holds) (same query trace holds).0 (same query trace holds).1))
            (told_trace (λ trace. TakesFront (taken old) (taken new) (text_unless (fault trace) (text trace))) ended query trace holds),
        λ query has is read refused. absurd (refused (accepts query has is read)),
      )
      by_trace (statuses.InputFault Trace) ended = (has_trace, ended.0, accepts, ended.1)
      by_trace (statuses.TraceRefused found) ended = (
        has_trace,
        accepts,
        λ query trace holds. (
          accepted_query query trace holds,
          (same query trace holds).0 ∙ told_trace (λ trace. fault trace ≡ Some found) ended.0 query trace holds,
        ),
        ended.1,
      )
      by_trace statuses.OutputFault ended = (
        ended.0,
        accepts,
        λ query trace holds.
            let cut = told_trace (λ trace. (fault trace ≡ None) × TakesFront (taken old) (taken new) (text trace)) ended.1 query trace
            holds in
            record {
              accepted = record { by_query = accepted_query query trace holds; by_trace = (same query trace holds).0 ∙ cut.0 };
              front = subst (TakesFront (taken old) (taken new)) (sym (same query trace holds).1) cut.1;
            },
      )
      by_trace _ ended = absurd ended

-- the pipeline of a query's plan, which represents the machines of the plan at the end, represents those of the query
pub query_stands : (setting : Setting) (found : TypedQuery) (plan : PlanParts) → IsPlanOf found plan → (p : PipelineView) → p.plan ≡ plan
    → (packets : List (List ℕ)) → AreWhole packets
    → PipelineStands p (end_machines plan (geometry_of setting) packets) → IsPlanOf found p.plan
    × PipelineStands p (query_ends found (geometry_of setting) packets)
query_stands setting found plan of_query p same packets whole stands = (
  subst (IsPlanOf found) (sym same) of_query,
  subst (PipelineStands p) (machines_are found plan (geometry_of setting) packets of_query whole) stands,
)

-- a run whose query was accepted
module _ (setting : Setting) (every : ℕ) (before : Which → Input) (found : TypedQuery)
    (known : IfSome (before Query).left (λ query. accepted query ≡ Ok found)) where
  read : ToldOf (Run setting every) before (λ query trace. accepted query.text ≡ Ok found)
  read query trace holds = told (λ text. accepted text ≡ Ok found) (before Query).left query.text known (holds.of_query refl)

  pub run_leaves : (plan : PlanParts) → IsPlanOf found plan → (old : Option Driven) (driven : Driven) → IsLeftBy setting driven
      → (pipeline_in driven).plan ≡ plan → IfSome (before Trace).left (λ trace. PipelineStands (pipeline_in driven)
      (end_machines plan (geometry_of setting) (words_of (traces.packets trace plan.reads))))
      → Leaves (Run setting every) before old (Some driven)
  run_leaves plan of_query old driven left same stands = (
    left,
    λ query trace holds. subst (λ one. StandsForEnd setting one (read_packets trace) (pipeline_in driven)) (sym (read query trace holds))
        (query_stands setting found plan of_query (pipeline_in driven) same (words_of (traces.packets trace (reads_of found)))
        (read_whole trace (reads_of found)) (subst (λ reads. PipelineStands (pipeline_in driven) (end_machines plan (geometry_of setting)
        (words_of (traces.packets trace reads)))) of_query.reads
        (told (λ trace. PipelineStands (pipeline_in driven) (end_machines plan (geometry_of setting)
        (words_of (traces.packets trace plan.reads)))) (before Trace).left trace stands (holds.of_trace refl)))),
  )

-- a plan whose query was accepted
pub stages_are_text : (ways : Ways) (before : Which → Input) (found : TypedQuery) (text : List ℕ)
    → IfSome (before Query).left (λ query. accepted query ≡ Ok found)
    → text ≡ plan_text_of (query_shape found) (ways_number ways) → IsText (Plan ways) before text
stages_are_text ways before found text known is query trace holds =
    let read = told (λ text. accepted text ≡ Ok found) (before Query).left query.text known (holds.of_query refl) in
    (record { by_query = ap fault_in read; by_trace = refl }, is ∙ sym (ap (stages_text ways) read))

-- a trial, which has no operands
abbrev pub trial_text : Generation → Setting → List ℕ
trial_text generation setting = tables_text setting (accepted trial_query) (λ q. made_packets generation)

pub trial_is_text : (generation : Generation) (setting : Setting) (before : Which → Input)
    → IsText (Trial generation setting) before (trial_text generation setting)
trial_is_text generation setting before query trace holds = (record { by_query = refl; by_trace = refl }, refl)

-- no status but Ok changes the working parts
module _ (command : Command) (before : Which → Input) (old new : Option Driven) (kept : new ≡ old) where
  kept_by : (status : Status) → (status ≡ statuses.Ok → ⊥) → DrivenAfter (Some command) before old new status
  kept_by statuses.Ok other = absurd (other refl)
  kept_by _ other = kept

  pub driven_kept : (result : Result (Unit {0}) Status) (status : Status) → IsErrAnd result (λ found. found ≡ status)
      → (status ≡ statuses.Ok → ⊥) → DrivenAfter (Some command) before old new (status_of result)
  driven_kept result status is other = subst (DrivenAfter (Some command) before old new) (sym (status_is result status is))
      (kept_by status other)

-- the statuses of these phases aren't Ok
pub operand_not_ok : (Refuses : List ℕ → QueryFault → Type 0) (before after : Input) (status : Status)
    → OperandEnds Refuses before after status → status ≡ statuses.Ok → ⊥
operand_not_ok Refuses before after status ended is = subst (OperandEnds Refuses before after) is ended

pub answer_not_ok : (answer : RunError) → status_for answer ≡ statuses.Ok → ⊥
answer_not_ok (breaks.Refused fault) is = cc
answer_not_ok breaks.Memory is = cc
answer_not_ok breaks.Failed is = cc
