-- That each text has one source for each command, so that what is said of all sources of a text is said of the text.
use Rattle.std.specs.Prelude.{◌≡◌, ℕ, List}
use Rattle.command_line.specs.declared.command.Command.{Command}
use Rattle.marple_cli.specs.Output.{IsRead, Source, defined_text, refusal, trace_refusal}

-- Each text has a source for each command.
abbrev pub SourcesAreThere : Type 0
SourcesAreThere = (command : Command) (text : List ℕ) → (source : Source) × (source.text ≡ text) × IsRead command source

-- All sources of a text are refused alike, refuse each trace alike, and mean the same text over it.
pub record AreAlike (command : Command) (a b : Source) : Type 0 where
  pub refused : refusal command a ≡ refusal command b
  pub trace_refused : (trace : List ℕ) → trace_refusal command a trace ≡ trace_refusal command b trace
  pub written : (trace : List ℕ) → defined_text command a trace ≡ defined_text command b trace

abbrev pub SourcesAreOne : Type 0
SourcesAreOne = (command : Command) (a b : Source) → a.text ≡ b.text → IsRead command a → IsRead command b → AreAlike command a b
