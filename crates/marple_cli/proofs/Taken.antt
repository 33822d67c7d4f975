-- How much is read of the operands, and what a command leaves unchanged.
use Rattle.std.proofs.Common.{◌≡◌, ℕ, true, false, List, [], Option, None, Some, refl, sym, ◌∙◌, subst, arith}
use Rattle.std.specs.Io.KnownBytes.{Consumes}
use Rattle.std.proofs.lemmas.Bool.{true≢false}
use Rattle.marple_base.specs.{Inputs.{Input, LosesUpTo}, declared.inputs.Which.{Which, TheVariants.{Query, Trace}}}
use Rattle.command_line.specs.declared.command.Command.{Command}
use Rattle.command_answers.specs.declared.status.Status.{Status}
use Rattle.command_answers.specs.declared.status.Status.TheVariants as statuses
use Rattle.query_run.specs.declared.driven.Driven.{Driven}
use Rattle.marple_cli.specs.{Call.{LosesWhatIsRead, most_read}, Driven.{DrivenAfter, Leaves}, Output.takes}

consumes_none : (left : Option (List ℕ)) → Consumes left left []
consumes_none None = tt
consumes_none (Some bytes) = refl

loses_none : (most : ℕ) (before after : Input) → after ≡ before → LosesUpTo most before after
loses_none most before after same = subst (LosesUpTo most before) (sym same) ([], consumes_none before.left, omega arith)

-- what holds of both operands holds of each
pub of_each : (P : Which → Type 0) → P Query → P Trace → (which : Which) → P which
of_each P query trace Query = query
of_each P query trace Trace = trace

module _ (asked : Option Command) (before after : Which → Input) where
  pub none_lost : ((which : Which) → after which ≡ before which) → LosesWhatIsRead asked before after
  none_lost same which = loses_none (most_read asked which) (before which) (after which) (same which)

  pub query_lost : LosesUpTo (most_read asked Query) (before Query) (after Query) → after Trace ≡ before Trace
      → LosesWhatIsRead asked before after
  query_lost lost kept Query = lost
  query_lost lost kept Trace = loses_none (most_read asked Trace) (before Trace) (after Trace) kept

  -- the query is read before the trace
  pub both_lost : (middle : Which → Input) → LosesUpTo (most_read asked Query) (before Query) (middle Query) → middle Trace ≡ before Trace
      → LosesUpTo (most_read asked Trace) (middle Trace) (after Trace) → after Query ≡ middle Query → LosesWhatIsRead asked before after
  both_lost middle lost kept trace_lost query_kept Query = subst (LosesUpTo (most_read asked Query) (before Query)) (sym query_kept) lost
  both_lost middle lost kept trace_lost query_kept Trace = subst (λ one. LosesUpTo (most_read asked Trace) one (after Trace)) kept
      trace_lost

module _ (command : Command) (before after : Which → Input) where
  pub query_taken : takes command Query ≡ true → after Trace ≡ before Trace → (which : Which) → takes command which ≡ false
      → after which ≡ before which
  query_taken taken kept Query untaken = absurd (true≢false (sym taken ∙ untaken))
  query_taken taken kept Trace untaken = kept

-- a command that leaves the working parts as they are does so in each status
pub undriven : (command : Command) (before : Which → Input) (driven : Option Driven) (status : Status) → Leaves command before driven driven
    → DrivenAfter (Some command) before driven driven status
undriven command before driven statuses.Ok left = left
undriven command before driven statuses.Memory left = refl
undriven command before driven statuses.Usage left = refl
undriven command before driven (statuses.InputFault which) left = refl
undriven command before driven (statuses.QueryRefused fault) left = refl
undriven command before driven (statuses.TraceRefused fault) left = refl
undriven command before driven statuses.OutputFault left = refl
