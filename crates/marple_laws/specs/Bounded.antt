-- What `enclose` writes of operands that are accepted.
use Rattle.std.specs.Prelude.{◌≡◌, ℕ, List, Ok}
use Rattle.query_lang.specs.declared.typed.TypedQuery.{TypedQuery}
use Rattle.accepted_query.specs.Accepted.{accepted}
use Rattle.command_line.specs.declared.{command.Command.TheVariants.Enclose, setting.Setting.Setting}
use Rattle.enclosed_query.specs.{EnclosedTables.enclose_text, Holding.ShownHolds}
use Rattle.query_run.specs.Driven.{geometry_of}
use Rattle.trace_drive.specs.Drives.{words_of}
use Rattle.marple_cli.specs.Output.{IsAccepted, Source, output, read_packets}

-- the packets of a trace for what the query reads, each with its words
abbrev pub words_read : List ℕ → TypedQuery → List (List ℕ)
words_read trace q = words_of (read_packets trace q)

-- The text is that of a query whose tables hold over all packets of the trace: there is a row for each key, values of a linear fold are
-- the fold over all packets of their key, and bounds enclose it, and are it where they are marked exact.
pub record WritesBounds (setting : Setting) (query : Source) (trace : List ℕ) : Type 0 where
  pub typed : TypedQuery
  pub of_text : accepted query.text ≡ Ok typed
  pub written : output (Enclose setting) query trace ≡ enclose_text typed (geometry_of setting) (words_read trace typed)
  pub holds : ShownHolds typed (geometry_of setting) (words_read trace typed)

-- So it is for all operands that `enclose` accepts.
abbrev pub AcceptedBoundsHold : Type 0
AcceptedBoundsHold = (setting : Setting) (query : Source) (trace : List ℕ) → IsAccepted (Enclose setting) query trace
    → WritesBounds setting query trace
