-- The sources of a text.
use Rattle.marple_laws.proofs.Words.{◌≡◌, ℕ, List, refl, ap, ◌∙◌, subst, Checked, Made, nothing, IsReadingOf}
use Rattle.std.specs.Prelude.{Ok}
use Rattle.command_line.specs.declared.command.Command.{Command}
use Rattle.command_line.specs.declared.command.Command.TheVariants as commands
use Rattle.marple_laws.{proofs.{OneReading.read_once, TextReadings.every_text}, specs.Sources.{AreAlike, SourcesAreOne, SourcesAreThere}}
use Rattle.marple_cli.specs.Output.{Source, defined_text, refusal, trace_refusal}

abbrev source_of : List ℕ → Checked Made → Source
source_of text plan = record { text = text; plan = plan }

pub there : SourcesAreThere
there (commands.RunPlan setting) text = (let found = every_text text in (source_of text found.0, refl, found.1))
there _ text = (source_of text (Ok nothing), refl, tt)

-- sources with one text and one plan
same_source : (command : Command) {a b : Source} → a.text ≡ b.text → a.plan ≡ b.plan → AreAlike command a b
same_source command {a} {b} text plan =
    let same : a ≡ b = ap (λ t. source_of t a.plan) text ∙ ap (source_of b.text) plan in
    record {
      refused = ap (refusal _) same;
      trace_refused = λ trace. ap (λ s. trace_refusal command s trace) same;
      written = λ trace. ap (λ s. defined_text command s trace) same;
    }

pub one : SourcesAreOne
one (commands.RunPlan setting) a b e p q = same_source _ e (read_once b.text a.plan b.plan (subst (λ t. IsReadingOf t a.plan) e p) q)
one command a b e p q = record {
  refused = ap (λ t. refusal command (source_of t a.plan)) e;
  trace_refused = λ trace. ap (λ t. trace_refusal command (source_of t a.plan) trace) e;
  written = λ trace. ap (λ t. defined_text command (source_of t a.plan) trace) e;
}
