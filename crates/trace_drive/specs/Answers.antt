-- What the answer of a run says where the run breaks off.
use Rattle.std.specs.Prelude.{◌≡◌, ℕ, List, [], Option, Some, None}
use Rattle.marple_base.specs.{Faults.Rose, Sink.TakesFront}
use Rattle.trace_drive.specs.declared.answer.RunError.{RunError, TheVariants.{Refused, Memory, Failed}}
use Rattle.trace_reader.specs.declared.fault.TraceAnswer.{TraceAnswer}
use Rattle.trace_reader.specs.declared.fault.TraceAnswer.TheVariants as answers
use Rattle.trace_reader.specs.declared.fault.TraceFault.{TraceFault}
use Rattle.marple_base.specs.declared.write_error.WriteError.{WriteError}
use Rattle.marple_base.specs.declared.write_error.WriteError.TheVariants as writes

-- the answer of a run where the trace's reader gives this answer
abbrev pub answer_for : TraceAnswer → RunError
answer_for (answers.Refused fault) = Refused fault
answer_for answers.Memory = Memory

-- the answer of a run where a text isn't written whole
abbrev pub answer_of : WriteError → RunError
answer_of writes.Failed = Failed
answer_of writes.Memory = Memory

-- the text that a run may write: nothing where the trace has a fault
abbrev pub text_unless : Option TraceFault → List ℕ → List ℕ
text_unless None text = text
text_unless (Some fault) text = []

-- A run broke off with an answer; it would have written this text over a trace with this first fault, if it has one.
module _ {O : Type 0} (taken : O → Option (List ℕ)) (faults : O
    → ℕ) (text : List ℕ) (fault : Option TraceFault) (old new : O) where
  abbrev pub BreaksOff : RunError → Type 0
  BreaksOff (Refused found) = (fault ≡ Some found) × (new ≡ old)
  BreaksOff Memory = TakesFront (taken old) (taken new) (text_unless fault text)
  BreaksOff Failed = (fault ≡ None) × Rose (faults old) (faults new) × TakesFront (taken old) (taken new) text
