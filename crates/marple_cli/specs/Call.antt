-- What a call of `marple` is about, and what each of its answers says.
use Rattle.std.specs.{Prelude.{◌≡◌, ◌+◌, ℕ, true, List, Option, None, Some, String, map, string_bytes, ⊤}, Io.KnownBytes.Appends}
use Rattle.marple_base.specs.{Faults.Rose, Inputs.{Input, LosesUpTo}, Sink.TakesFront, declared.inputs.Which.Which}
use Rattle.marple_base.specs.declared.inputs.Which.TheVariants.{Query, Trace}
use Rattle.query_lang.specs.declared.fault.TheConstants.{MAX_QUERY}
use Rattle.trace_reader.specs.declared.fault.TheConstants.{MAX_TRACE}
use Rattle.command_line.specs.{Command.asked, declared.command.Command.{Command, TheVariants.RunPlan}}
use Rattle.plan_file.specs.declared.texts.TheConstants.{MAX_PLAN}
use Rattle.marple_cli.specs.Output.{IsAccepted, IsRead, Source, output, takes}
use Rattle.command_answers.specs.declared.status.Status.{Status}
use Rattle.command_answers.specs.declared.status.Status.TheVariants as statuses

-- the command that the words of a command line ask for
abbrev pub asked_by : {A : Type 0} → List (String A) → Option Command
asked_by words = asked (map string_bytes words)

-- The command is asked for, and this input is one of its operands.
abbrev pub Takes : Option Command → Which → Type 0
Takes None which = ⊥
Takes (Some command) which = takes command which ≡ true

-- These are the bytes of the command's operands in the inputs, and the text of a plan says this.
pub record Holds (command : Command) (inputs : Which → Input) (query : Source) (trace : List ℕ) : Type 0 where
  pub of_query : takes command Query ≡ true → (inputs Query).left ≡ Some query.text
  pub read : IsRead command query
  pub of_trace : takes command Trace ≡ true → (inputs Trace).left ≡ Some trace

-- P holds of the command and the bytes of its operands, where a command is asked for and these bytes are known.
abbrev pub WhereTold : Option Command → (Which → Input) → (Command → Source → List ℕ → Type 0) → Type 0
WhereTold asked inputs P =
    (command : Command) (query : Source) (trace : List ℕ) → asked ≡ Some command → Holds command inputs query trace → P command query trace

-- P holds of the command and its query or plan, where a command with one is asked for and the bytes of its input are
-- known, whether or not those of the other input are.
abbrev pub WhereQueryTold : Option Command → (Which → Input) → (Command → Source → Type 0) → Type 0
WhereQueryTold asked inputs P =
    (command : Command) (query : Source) → asked ≡ Some command → takes command Query ≡ true
    → (inputs Query).left ≡ Some query.text → IsRead command query → P command query

-- The counts of faults of the command's inputs and of the output did not rise.
pub record IsQuiet (command : Command) (before after : Which → Input) (out_before out_after : ℕ) : Type 0 where
  pub inputs : (which : Which) → takes command which ≡ true → Rose (before which).faults (after which).faults → ⊥
  pub out : Rose out_before out_after → ⊥

-- The output took exactly what the command writes, of operands that are accepted.
pub record WritesOutput (old new : Option (List ℕ)) (command : Command) (query : Source) (trace : List ℕ) : Type 0 where
  pub accepted : IsAccepted command query trace
  pub whole : Appends old new (output command query trace)

-- The operands are accepted, and the output took some prefix of what the command writes.
pub record WritesFront (old new : Option (List ℕ)) (command : Command) (query : Source) (trace : List ℕ) : Type 0 where
  pub accepted : IsAccepted command query trace
  pub front : TakesFront old new (output command query trace)

-- These leave the output unchanged.
abbrev pub IsBeforeOutput : Status → Type 0
IsBeforeOutput statuses.Usage = ⊤
IsBeforeOutput (statuses.InputFault which) = ⊤
IsBeforeOutput (statuses.QueryRefused fault) = ⊤
IsBeforeOutput (statuses.TraceRefused fault) = ⊤
IsBeforeOutput status = ⊥

-- These leave the trace unchanged.
abbrev pub IsBeforeTrace : Status → Type 0
IsBeforeTrace statuses.Usage = ⊤
IsBeforeTrace (statuses.InputFault Query) = ⊤
IsBeforeTrace (statuses.QueryRefused fault) = ⊤
IsBeforeTrace status = ⊥

-- P holds of the bytes of the command's operands, where they are known.
abbrev pub ToldOf : Command → (Which → Input) → (Source → List ℕ → Type 0) → Type 0
ToldOf command inputs P = (query : Source) (trace : List ℕ) → Holds command inputs query trace → P query trace

-- the most bytes that are read of an operand: one more than it may have
abbrev pub most_read : Option Command → Which → ℕ
most_read (Some (RunPlan setting)) Query = MAX_PLAN + 1
most_read asked Query = MAX_QUERY + 1
most_read asked Trace = MAX_TRACE + 1

-- Each input lost at most the bytes that are read of an operand.
abbrev pub LosesWhatIsRead : Option Command → (Which → Input) → (Which → Input) → Type 0
LosesWhatIsRead asked before after = (which : Which) → LosesUpTo (most_read asked which) (before which) (after which)
