-- How a command over a trace ends, phase by phase.
use Rattle.std.{proofs.Common.{◌≡◌, ◌+◌, ℕ, true, List, take, Option, None, IfSome, subst}, specs.Io.KnownBytes.Appends}
use Rattle.marple_base.specs.{Inputs.Input, declared.{field.FieldSet.FieldSet, inputs.Which.{Which, TheVariants.{Query, Trace}}}}
use Rattle.trace_reader.specs.{Traces.{Contents, contents}, declared.fault.{TheConstants.MAX_TRACE, TraceFault.TraceFault}}
use Rattle.trace_drive.specs.{Answers.BreaksOff, declared.answer.RunError.RunError}
use Rattle.command_line.specs.declared.command.Command.{Command}
use Rattle.marple_cli.specs.{Call.ToldOf, Ends.{Ends, QueryTold}, Output.{output, refusal, takes, trace_refusal}}
use Rattle.command_answers.specs.{Phases.{ReadEnds, TraceEnds, status_for}, declared.status.Status.Status}
use Rattle.command_answers.specs.declared.status.Status.TheVariants as statuses
use Rattle.marple_cli.proofs.Ending.{Ended, by_trace, trace_written}
use Rattle.command_answers.proofs.Limits.{read_ends, told_contents, trace_ends}

-- A command over a trace refuses it for this fault of what is read of it, and writes this text. The trace was unread until then.
pub record IsOver (command : Command) (before middle : Which → Input) (reads : FieldSet) (fault : Contents → Option TraceFault)
    (text : Contents → List ℕ) : Type 0 where
  pub accepts : QueryTold command before (λ query. refusal command query ≡ None)
  pub has_query : takes command Query ≡ true
  pub has_trace : takes command Trace ≡ true
  pub same : ToldOf command before (λ query trace. (trace_refusal command query trace ≡ fault (contents trace reads))
      × (output command query trace ≡ text (contents trace reads)))
  pub kept : middle Trace ≡ before Trace

module _ {O : Type 0} (taken : O → Option (List ℕ)) (faults : O → ℕ) {command : Command} {before middle : Which → Input}
    (after : Which → Input) {reads : FieldSet} {fault : Contents → Option TraceFault} {text : Contents → List ℕ}
    (over : IsOver command before middle reads fault text) where
  pub ends_by : (old new : O) (status : Status) → TraceEnds taken faults (λ trace. fault (contents trace reads))
      (λ trace. text (contents trace reads)) (middle Trace) (after Trace) old new status
      → Ended taken faults command before after old new status
  ends_by old new status ended = record {
    ends = by_trace taken faults command before after old new over.accepts (λ trace. fault (contents trace reads))
        (λ trace. text (contents trace reads)) over.has_query over.has_trace over.same status
        (subst (λ one. TraceEnds taken faults (λ trace. fault (contents trace reads)) (λ trace. text (contents trace reads)) one
        (after Trace) old new status) over.kept ended);
  }

  pub is_not_ok : (old new : O) (status : Status) → TraceEnds taken faults (λ trace. fault (contents trace reads))
      (λ trace. text (contents trace reads)) (middle Trace) (after Trace) old new status → status ≡ statuses.Ok → ⊥
  is_not_ok old new status ended is =
      subst (TraceEnds taken faults (λ trace. fault (contents trace reads)) (λ trace. text (contents trace reads)) (middle Trace)
      (after Trace) old new) is ended

  pub written_by : (old new : O) → IfSome (middle Trace).left (λ trace. fault (contents trace reads) ≡ None)
      → IfSome (middle Trace).left (λ trace. Appends (taken old) (taken new) (text (contents trace reads)))
      → Ends taken faults command before after old new statuses.Ok
  written_by old new sound whole =
      trace_written taken faults command before after old new over.accepts
      (λ trace. fault (contents trace reads)) (λ trace. text (contents trace reads)) over.has_query over.has_trace over.same
      (subst (λ one. IfSome one.left (λ trace. fault (contents trace reads) ≡ None)) over.kept sound)
      (subst (λ one. IfSome one.left (λ trace. Appends (taken old) (taken new) (text (contents trace reads)))) over.kept whole)

  pub not_read : (out : O) (status : Status) → ReadEnds (middle Trace) (after Trace) status
      → Ended taken faults command before after out out status
  not_read out status ended =
      ends_by out out status (read_ends taken faults (λ trace. fault (contents trace reads))
      (λ trace. text (contents trace reads)) (middle Trace) (after Trace) out status ended)

  -- the bytes that were read
  module _ (bytes slice : List ℕ) (read : IfSome (middle Trace).left (λ trace. bytes ≡ take (MAX_TRACE + 1) trace))
      (sliced : slice ≡ bytes) where
    pub broken_off : (old new : O) (answer : RunError)
        → BreaksOff taken faults (text (contents slice reads)) (fault (contents slice reads)) old new answer
        → Ended taken faults command before after old new (status_for answer)
    broken_off old new answer ended =
        ends_by old new (status_for answer) (trace_ends taken faults reads fault text (middle Trace) (after Trace) old new bytes
        slice answer read sliced ended)

    pub whole_written : (old new : O) → fault (contents slice reads) ≡ None → Appends (taken old) (taken new) (text (contents slice reads))
        → Ends taken faults command before after old new statuses.Ok
    whole_written old new sound whole =
        written_by old new (told_contents (λ found. fault found ≡ None) reads (middle Trace).left bytes slice read sliced sound)
        (told_contents (λ found. Appends (taken old) (taken new) (text found)) reads (middle Trace).left bytes slice read sliced whole)
