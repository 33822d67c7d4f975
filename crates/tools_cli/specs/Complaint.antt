-- The lines of complaints, and the numbers of statuses: those of `marple` where it has the same status.
use Rattle.std.specs.Prelude.{ℕ, List, [], codes}
use Rattle.command_answers.specs.Complaint.{complaint}
use Rattle.command_answers.specs.declared.status.Status.TheVariants as marple
use Rattle.trace_pieces.specs.Faults.{trace_fault_of}
use Rattle.tools_cli.specs.declared.status.ToolStatus.{ToolStatus}
use Rattle.tools_cli.specs.declared.status.ToolStatus.TheVariants as tools

-- the one line that a status writes
abbrev pub tool_complaint : ToolStatus → List ℕ
tool_complaint tools.Ok = []
tool_complaint tools.Memory = complaint marple.Memory
tool_complaint tools.Usage = complaint marple.Usage
tool_complaint (tools.InputFault which) = complaint (marple.InputFault which)
tool_complaint (tools.QueryRefused fault) = complaint (marple.QueryRefused fault)
tool_complaint tools.FieldNeeded = codes "marple: query: FieldNeeded\n"
tool_complaint (tools.TraceRefused fault) = complaint (marple.TraceRefused (trace_fault_of fault))
tool_complaint tools.OutputFault = complaint marple.OutputFault

-- the number of a status, which is the exit status of the program
abbrev pub tool_number : ToolStatus → ℕ
tool_number tools.Ok = 0
tool_number tools.Memory = 1
tool_number tools.Usage = 2
tool_number (tools.InputFault which) = 3
tool_number (tools.QueryRefused fault) = 4
tool_number tools.FieldNeeded = 4
tool_number (tools.TraceRefused fault) = 5
tool_number tools.OutputFault = 6
