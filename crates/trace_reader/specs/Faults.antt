-- Which faults a call can give.
use Rattle.std.specs.Prelude.{⊤}
use Rattle.trace_reader.specs.declared.fault.TraceAnswer.{TraceAnswer}
use Rattle.trace_reader.specs.declared.fault.TraceAnswer.TheVariants as answer
use Rattle.trace_reader.specs.declared.fault.TraceFault.{TraceFault}
use Rattle.trace_reader.specs.declared.fault.TraceFault.TheVariants as fault

-- a fact of the fault, where the answer is a refusal
abbrev pub IfRefused : TraceAnswer → (TraceFault → Type 0) → Type 0
IfRefused (answer.Refused fault) P = P fault
IfRefused answer.Memory P = ⊤

-- a fault of the trace as a whole or of its header
abbrev pub IsEarly : TraceFault → Type 0
IsEarly fault.TraceTooLong = ⊤
IsEarly fault.NoHeader = ⊤
IsEarly (fault.FieldTwice field) = ⊤
IsEarly (fault.FieldMissing field) = ⊤
IsEarly (fault.FieldCount n) = ⊥
IsEarly (fault.BadNumber n field) = ⊥
IsEarly fault.TooManyPackets = ⊥
IsEarly (fault.TooManySwitches n) = ⊥

-- a fault of a data record
abbrev pub IsLate : TraceFault → Type 0
IsLate fault.TraceTooLong = ⊥
IsLate fault.NoHeader = ⊥
IsLate (fault.FieldTwice field) = ⊥
IsLate (fault.FieldMissing field) = ⊥
IsLate (fault.FieldCount n) = ⊤
IsLate (fault.BadNumber n field) = ⊤
IsLate fault.TooManyPackets = ⊤
IsLate (fault.TooManySwitches n) = ⊥
