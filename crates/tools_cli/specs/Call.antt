-- What a call of the second program is about.
use Rattle.std.specs.Prelude.{◌≡◌, List, Option, Some, String, map, string_bytes, ⊤}
use Rattle.marple_base.specs.declared.inputs.Which.TheVariants.{Query, Trace}
use Rattle.tools_cli.specs.{Command.asked, declared.command.{SplitSetting.SplitSetting, ToolCommand.ToolCommand}}
use Rattle.tools_cli.specs.declared.{command.ToolCommand.TheVariants.{Facts, Split}, status.ToolStatus.ToolStatus}
use Rattle.tools_cli.specs.declared.status.ToolStatus.TheVariants as tools

-- the command that the words of a command line ask for
abbrev pub asked_by : {A : Type 0} → List (String A) → Option ToolCommand
asked_by words = asked (map string_bytes words)

-- P holds of the setting, where a splitting is asked for.
abbrev pub WhereSplit : Option ToolCommand → (SplitSetting → Type 0) → Type 0
WhereSplit asked P = (setting : SplitSetting) → asked ≡ Some (Split setting) → P setting

-- P holds, where facts are asked for.
abbrev pub WhereFacts : Option ToolCommand → Type 0 → Type 0
WhereFacts asked P = asked ≡ Some Facts → P

-- the status comes after a query by whose fields traces may be split
abbrev pub IsAfterQuery : ToolStatus → Type 0
IsAfterQuery tools.Ok = ⊤
IsAfterQuery (tools.InputFault Trace) = ⊤
IsAfterQuery (tools.TraceRefused fault) = ⊤
IsAfterQuery tools.OutputFault = ⊤
IsAfterQuery status = ⊥

-- facts end in such a status: they are told of any query, also of one that is refused
abbrev pub IsOfFacts : ToolStatus → Type 0
IsOfFacts tools.Ok = ⊤
IsOfFacts tools.Memory = ⊤
IsOfFacts (tools.InputFault Query) = ⊤
IsOfFacts tools.OutputFault = ⊤
IsOfFacts status = ⊥
