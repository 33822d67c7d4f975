-- The line that a status other than Ok writes to standard error, and its number.
use Rattle.std.specs.Prelude.{ℕ, List, [], ◌++◌, codes, decimal}
use Rattle.marple_base.specs.{Field.field_name, declared.inputs.Which.TheVariants.{Query, Trace}}
use Rattle.query_lang.specs.declared.fault.FaultKind.{FaultKind}
use Rattle.query_lang.specs.declared.fault.FaultKind.TheVariants as kinds
use Rattle.query_lang.specs.declared.fault.Limit.TheVariants as limits
use Rattle.trace_reader.specs.declared.fault.TraceFault.{TraceFault}
use Rattle.trace_reader.specs.declared.fault.TraceFault.TheVariants as faults
use Rattle.command_answers.specs.declared.status.Status.{Status}
use Rattle.command_answers.specs.declared.status.Status.TheVariants as statuses

-- the name of a kind of fault
abbrev pub kind_text : FaultKind → List ℕ
kind_text kinds.QueryTooLong = codes "QueryTooLong"
kind_text kinds.BadByte = codes "BadByte"
kind_text kinds.UnexpectedToken = codes "UnexpectedToken"
kind_text kinds.NumberTooLarge = codes "NumberTooLarge"
kind_text kinds.UnknownName = codes "UnknownName"
kind_text kinds.NameTaken = codes "NameTaken"
kind_text kinds.WrongKind = codes "WrongKind"
kind_text kinds.WrongArity = codes "WrongArity"
kind_text kinds.BadConstant = codes "BadConstant"
kind_text kinds.StateOnLine = codes "StateOnLine"
kind_text (kinds.OverLimit limits.Groupbys) = codes "OverLimit(groupbys)"
kind_text (kinds.OverLimit limits.Keys) = codes "OverLimit(keys)"
kind_text (kinds.OverLimit limits.States) = codes "OverLimit(states)"
kind_text (kinds.OverLimit limits.Args) = codes "OverLimit(args)"
kind_text (kinds.OverLimit limits.Statements) = codes "OverLimit(statements)"
kind_text (kinds.OverLimit limits.Nodes) = codes "OverLimit(nodes)"
kind_text (kinds.OverLimit limits.Bindings) = codes "OverLimit(bindings)"
kind_text (kinds.OverLimit limits.Nesting) = codes "OverLimit(nesting)"
kind_text (kinds.OverLimit limits.Stages) = codes "OverLimit(stages)"
kind_text kinds.NothingPrinted = codes "NothingPrinted"
kind_text kinds.NotAdditive = codes "NotAdditive"
kind_text kinds.NotMonotone = codes "NotMonotone"
kind_text kinds.FinalInPlan = codes "FinalInPlan"
kind_text kinds.BadPlan = codes "BadPlan"

-- a fault of a trace, with the record and the field where it is
abbrev pub trace_fault_text : TraceFault → List ℕ
trace_fault_text faults.TraceTooLong = codes "TraceTooLong"
trace_fault_text faults.NoHeader = codes "NoHeader"
trace_fault_text (faults.FieldTwice field) = codes "FieldTwice(" ++ field_name field ++ codes ")"
trace_fault_text (faults.FieldMissing field) = codes "FieldMissing(" ++ field_name field ++ codes ")"
trace_fault_text (faults.FieldCount n) = codes "FieldCount(" ++ decimal n ++ codes ")"
trace_fault_text (faults.BadNumber n field) = codes "BadNumber(" ++ decimal n ++ codes "," ++ field_name field ++ codes ")"
trace_fault_text faults.TooManyPackets = codes "TooManyPackets"
trace_fault_text (faults.TooManySwitches n) = codes "TooManySwitches(" ++ decimal n ++ codes ")"

-- the one line that a status writes
abbrev pub complaint : Status → List ℕ
complaint statuses.Ok = []
complaint statuses.Memory = codes "marple: out of memory\n"
complaint statuses.Usage = codes "marple: bad command line\n"
complaint (statuses.InputFault Query) = codes "marple: cannot read the query\n"
complaint (statuses.InputFault Trace) = codes "marple: cannot read the trace\n"
complaint (statuses.QueryRefused fault) = codes "marple: query: " ++ kind_text fault.kind ++ codes " at "
    ++ decimal fault.span.start ++ codes "\n"
complaint (statuses.TraceRefused fault) = codes "marple: trace: " ++ trace_fault_text fault ++ codes "\n"
complaint statuses.OutputFault = codes "marple: cannot write\n"

-- the number of a status, which is the exit status of the program
abbrev pub number_of : Status → ℕ
number_of statuses.Ok = 0
number_of statuses.Memory = 1
number_of statuses.Usage = 2
number_of (statuses.InputFault which) = 3
number_of (statuses.QueryRefused fault) = 4
number_of (statuses.TraceRefused fault) = 5
number_of statuses.OutputFault = 6
