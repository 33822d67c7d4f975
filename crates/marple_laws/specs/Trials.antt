-- What `run` does with the trial's query and the text that `gen` writes.
use Rattle.std.specs.Prelude.{◌≡◌, ℕ, List, [], None}
use Rattle.accepted_query.specs.TrialQuery.{trial_query}
use Rattle.command_line.specs.{Command.IsGeneration, declared.command.{Command.TheVariants.{Gen, Run, Trial}, Generation.Generation}}
use Rattle.command_line.specs.declared.setting.Setting.{Setting}
use Rattle.marple_cli.specs.Output.{Source, output, refusal, trace_refusal}

-- A run of the query without views over this trace: neither is refused, and it writes what the trial writes.
pub record RunsAsTheTrial (generation : Generation) (setting : Setting) (query : Source) (trace : List ℕ) : Type 0 where
  pub query_accepted : refusal (Run setting 0) query ≡ None
  pub trace_accepted : trace_refusal (Run setting 0) query trace ≡ None
  pub written : output (Run setting 0) query trace ≡ output (Trial generation setting) query trace

-- A trial writes what a run of its query writes over the text that `gen` writes with the same two numbers.
abbrev pub TrialsAreRuns : Type 0
TrialsAreRuns = (generation : Generation) (setting : Setting) (query : Source) → IsGeneration generation → query.text ≡ trial_query
    → RunsAsTheTrial generation setting query (output (Gen generation) query [])
