-- What `run-plan` does with the text that `compile` writes of a query.
use Rattle.std.specs.Prelude.{◌≡◌, ℕ, List, [], None}
use Rattle.command_line.specs.declared.{command.Command.TheVariants.{Compile, Run, RunPlan}, setting.Setting.Setting}
use Rattle.marple_cli.specs.Output.{IsRead, Source, output, refusal, trace_refusal}

-- `compile` accepts the query, and the text that it writes is that of the plan. It reads no trace.
pub record IsCompiled (query plan : Source) : Type 0 where
  pub accepted : refusal Compile query ≡ None
  pub written : plan.text ≡ output Compile query []

-- A run of the plan and a run of the query without views: neither is refused, both refuse the trace for the same fault, and they write
-- the same text.
pub record RunAlike (setting : Setting) (query plan : Source) (trace : List ℕ) : Type 0 where
  pub query_accepted : refusal (Run setting 0) query ≡ None
  pub plan_accepted : refusal (RunPlan setting) plan ≡ None
  pub trace_refused : trace_refusal (RunPlan setting) plan trace ≡ trace_refusal (Run setting 0) query trace
  pub written : output (RunPlan setting) plan trace ≡ output (Run setting 0) query trace

-- The plans that `compile` writes run as their queries, with each setting and over each trace.
abbrev pub CompiledPlansRunAsQueries : Type 0
CompiledPlansRunAsQueries = (query plan : Source) (setting : Setting) (trace : List ℕ) → IsCompiled query plan
    → IsRead (RunPlan setting) plan → RunAlike setting query plan trace
