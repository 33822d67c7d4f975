-- The statuses of what a command calls.
use Rattle.std.specs.Prelude.{Result, Ok, Err, ⊤}
use Rattle.command_answers.specs.declared.status.Status.{Status}
use Rattle.command_answers.specs.declared.status.Status.TheVariants as marple
use Rattle.marple_base.specs.declared.inputs.Which.TheVariants.{Trace}
use Rattle.tools_cli.specs.declared.status.ToolStatus.{ToolStatus}
use Rattle.tools_cli.specs.declared.status.ToolStatus.TheVariants as tools
use Rattle.trace_split.specs.declared.fault.SplitError.{SplitError}
use Rattle.trace_split.specs.declared.fault.SplitError.TheVariants as error

-- a query that isn't read or accepted has one of these
abbrev pub IsOfQuery : Status → Type 0
IsOfQuery marple.Memory = ⊤
IsOfQuery (marple.InputFault which) = ⊤
IsOfQuery (marple.QueryRefused fault) = ⊤
IsOfQuery status = ⊥

-- of a query that wasn't read or accepted
abbrev pub status_of_query : Status → ToolStatus
status_of_query (marple.InputFault which) = tools.InputFault which
status_of_query (marple.QueryRefused fault) = tools.QueryRefused fault
status_of_query status = tools.Memory

-- of traces that weren't split
abbrev pub status_of_traces : SplitError → ToolStatus
status_of_traces (error.Refused fault) = tools.TraceRefused fault
status_of_traces error.InputFault = tools.InputFault Trace
status_of_traces error.OutputFault = tools.OutputFault
status_of_traces error.Memory = tools.Memory

-- that a command ends in
abbrev pub status_of : Result (Unit {0}) ToolStatus → ToolStatus
status_of (Ok done) = tools.Ok
status_of (Err status) = status
