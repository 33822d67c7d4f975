-- What each status says of a command.
use Rattle.std.specs.Prelude.{◌≡◌, ℕ, true, false, List, Option, None, Some, Result, Ok, Err}
use Rattle.marple_base.specs.{Faults.Rose, Inputs.Input, Sink.TakesFront, declared.inputs.Which.{Which, TheVariants.{Query, Trace}}}
use Rattle.command_line.specs.declared.command.Command.{Command}
use Rattle.command_answers.specs.declared.status.Status.{Status}
use Rattle.command_answers.specs.declared.status.Status.TheVariants as statuses
use Rattle.marple_cli.specs.{Call.{ToldOf, WritesOutput, WritesFront}, Output.{IsRead, Source, defined_text, refusal, takes, trace_refusal}}

-- P holds of the query or the plan, where the command has one and the bytes of its input are known.
abbrev pub QueryTold : Command → (Which → Input) → (Source → Type 0) → Type 0
QueryTold command inputs P = (query : Source) → takes command Query ≡ true → (inputs Query).left ≡ Some query.text
    → IsRead command query → P query

-- the status that a command ends in
abbrev pub status_of : Result (Unit {0}) Status → Status
status_of (Ok done) = statuses.Ok
status_of (Err status) = status

-- What each status says of a command.
module _ {O : Type 0} (taken : O → Option (List ℕ)) (faults : O → ℕ) (command : Command) (before after : Which → Input) (old new : O) where
  abbrev pub Ends : Status → Type 0
  Ends statuses.Ok = QueryTold command before (λ query. refusal command query ≡ None)
      × ToldOf command before (WritesOutput (taken old) (taken new) command)
  Ends statuses.Memory =
      ToldOf command before (λ query trace. TakesFront (taken old) (taken new) (defined_text command query trace))
      × QueryTold command before (λ query. (refusal command query ≡ None → ⊥) → (new ≡ old) × (after Trace ≡ before Trace))
  Ends statuses.Usage = ⊥
  Ends (statuses.InputFault Query) =
      (takes command Query ≡ true) × Rose (before Query).faults (after Query).faults × (after Trace ≡ before Trace) × (new ≡ old)
  Ends (statuses.InputFault Trace) =
      (takes command Trace ≡ true) × Rose (before Trace).faults (after Trace).faults
      × QueryTold command before (λ query. refusal command query ≡ None) × (new ≡ old)
  Ends (statuses.QueryRefused fault) =
      (takes command Query ≡ true) × QueryTold command before (λ query. refusal command query ≡ Some fault)
      × (after Trace ≡ before Trace) × (new ≡ old)
  Ends (statuses.TraceRefused fault) =
      (takes command Trace ≡ true) × QueryTold command before (λ query. refusal command query ≡ None)
      × ToldOf command before (λ query trace. (refusal command query ≡ None)
      × (trace_refusal command query trace ≡ Some fault)) × (new ≡ old)
  Ends statuses.OutputFault =
      Rose (faults old) (faults new) × QueryTold command before (λ query. refusal command query ≡ None)
      × ToldOf command before (WritesFront (taken old) (taken new) command)

-- What each status says of a call, whether a command is asked for or not.
module _ {O : Type 0} (taken : O → Option (List ℕ)) (faults : O → ℕ) (before after : Which → Input) (old new : O) where
  abbrev pub Answers : Option Command → Status → Type 0
  Answers None status = (status ≡ statuses.Usage) × (new ≡ old) × ((which : Which) → after which ≡ before which)
  Answers (Some command) status =
      Ends taken faults command before after old new status × ((which : Which) → takes command which ≡ false → after which ≡ before which)
