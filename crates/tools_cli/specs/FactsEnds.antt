-- How the facts of a query are written.
use Rattle.std.specs.{Prelude.{◌≡◌, ℕ, List, [], ◌∷◌, ◌++◌, Option, Some, ⊤}, Io.KnownBytes.Appends}
use Rattle.facts_text.specs.Json.{IsJson}
use Rattle.marple_base.specs.{Faults.Rose, declared.inputs.Which.TheVariants.Query}
use Rattle.query_facts.specs.{Facts.AreOfText, declared.answer.Facts.Facts}
use Rattle.tools_cli.specs.declared.status.ToolStatus.{ToolStatus}
use Rattle.tools_cli.specs.declared.status.ToolStatus.TheVariants as tools

-- The line of the facts of a text: these are its facts, and the line is one JSON text.
pub record IsFactsLine (text line : List ℕ) : Type 0 where
  pub facts : Facts
  pub of : AreOfText text facts
  pub shown : List ℕ
  pub json : IsJson shown
  pub ended : line ≡ shown ++ 10 ∷ []

-- Where the text of the query is known, such a line was taken, and the whole of it. The bytes taken are those before and after.
abbrev pub GivesFacts : Option (List ℕ) → Option (List ℕ) → Option (List ℕ) → Type 0
GivesFacts query old new = (text : List ℕ) → query ≡ Some text → (line : List ℕ) × IsFactsLine text line × Appends old new line

-- Facts weren't written for this status. The counts of faults are those before and after, of the query and of the sink.
abbrev pub FactsEnd : ℕ → ℕ → ℕ → ℕ → ToolStatus → Type 0
FactsEnd query_old query_new out_old out_new tools.Memory = ⊤
FactsEnd query_old query_new out_old out_new (tools.InputFault Query) = Rose query_old query_new
FactsEnd query_old query_new out_old out_new tools.OutputFault = Rose out_old out_new
FactsEnd query_old query_new out_old out_new status = ⊥

-- The query wasn't read for this status.
abbrev pub IsUnread : ℕ → ℕ → ToolStatus → Type 0
IsUnread query_old query_new tools.Memory = ⊤
IsUnread query_old query_new (tools.InputFault Query) = Rose query_old query_new
IsUnread query_old query_new status = ⊥
