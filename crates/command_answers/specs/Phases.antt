-- How the phases of a command end, by status.
use Rattle.std.specs.Prelude.{◌≡◌, ℕ, List, Option, None, Some, IfSome, ⊤, Ok}
use Rattle.marple_base.specs.{Faults.Rose, Inputs.Input, Sink.TakesFront, declared.inputs.Which.TheVariants.{Query, Trace}}
use Rattle.query_lang.specs.declared.error.QueryError.{QueryError}
use Rattle.query_lang.specs.declared.error.QueryError.TheVariants as errors
use Rattle.query_lang.specs.declared.{fault.QueryFault.QueryFault, typed.TypedQuery.TypedQuery}
use Rattle.accepted_query.specs.Accepted.{accepted}
use Rattle.trace_drive.specs.{Answers.text_unless, declared.answer.RunError.RunError}
use Rattle.trace_drive.specs.declared.answer.RunError.TheVariants as breaks
use Rattle.trace_reader.specs.declared.fault.TraceFault.{TraceFault}
use Rattle.plan_file.specs.{Texts.{IsRefused, Says}, declared.made.Made.Made}
use Rattle.plan_loader.specs.{Loaded.IsLoadedFrom, declared.loaded.LoadedPlan.LoadedPlan}
use Rattle.command_answers.specs.declared.status.Status.{Status}
use Rattle.command_answers.specs.declared.status.Status.TheVariants as statuses

-- the status of a run over packets that broke off
abbrev pub status_for : RunError → Status
status_for (breaks.Refused fault) = statuses.TraceRefused fault
status_for breaks.Memory = statuses.Memory
status_for breaks.Failed = statuses.OutputFault

-- the status of a query or of a plan that isn't accepted
abbrev pub refusal_status : QueryError → Status
refusal_status (errors.Refused fault) = statuses.QueryRefused fault
refusal_status errors.Memory = statuses.Memory

-- A phase that reads the first operand, and refuses it for these faults, ended in this status.
abbrev pub OperandEnds : (List ℕ → QueryFault → Type 0) → Input → Input → Status → Type 0
OperandEnds Refuses before after statuses.Memory = ⊤
OperandEnds Refuses before after (statuses.InputFault Query) = Rose before.faults after.faults
OperandEnds Refuses before after (statuses.QueryRefused found) = IfSome before.left (λ text. Refuses text found)
OperandEnds Refuses before after status = ⊥

-- the same for the text of a query, with these faults
abbrev pub QueryEnds : (List ℕ → Option QueryFault) → Input → Input → Status → Type 0
QueryEnds fault = OperandEnds (λ query found. fault query ≡ Some found)

-- the same for the text of a plan
abbrev pub PlanEnds : Input → Input → Status → Type 0
PlanEnds = OperandEnds (λ text found. IsRefused text (errors.Refused found))

-- Some text is that of the query, even where the bytes of the input aren't known.
abbrev pub IsOfText : TypedQuery → Type 0
IsOfText q = (text : List ℕ) × (accepted text ≡ Ok q)

-- A plan was read from the first operand.
pub record IsReadFrom (before : Input) (loaded : LoadedPlan) : Type 0 where
  pub made : Made
  pub from : IsLoadedFrom made loaded
  pub says : IfSome before.left (λ text. Says text made)

-- A phase that reads the bytes of the trace ended in this status.
abbrev pub ReadEnds : Input → Input → Status → Type 0
ReadEnds before after statuses.Memory = ⊤
ReadEnds before after (statuses.InputFault Trace) = Rose before.faults after.faults
ReadEnds before after status = ⊥

-- A phase that reads the trace, refuses it for these faults, and writes this text for it, ended in this status.
module _ {O : Type 0} (taken : O → Option (List ℕ)) (faults : O → ℕ) (fault : List ℕ → Option TraceFault) (text : List ℕ
    → List ℕ) (before after : Input) (old new : O) where
  abbrev pub TraceEnds : Status → Type 0
  TraceEnds statuses.Memory = IfSome before.left (λ trace. TakesFront (taken old) (taken new) (text_unless (fault trace) (text trace)))
  TraceEnds (statuses.InputFault Trace) = Rose before.faults after.faults × (new ≡ old)
  TraceEnds (statuses.TraceRefused found) = IfSome before.left (λ trace. fault trace ≡ Some found) × (new ≡ old)
  TraceEnds statuses.OutputFault =
      Rose (faults old) (faults new) × IfSome before.left (λ trace. (fault trace ≡ None) × TakesFront (taken old) (taken new) (text trace))
  TraceEnds status = ⊥

-- A phase that writes this text ended in this status.
module _ {O : Type 0} (taken : O → Option (List ℕ)) (faults : O → ℕ) (text : List ℕ) (old new : O) where
  abbrev pub WriteEnds : Status → Type 0
  WriteEnds statuses.Memory = TakesFront (taken old) (taken new) text
  WriteEnds statuses.OutputFault = Rose (faults old) (faults new) × TakesFront (taken old) (taken new) text
  WriteEnds status = ⊥
