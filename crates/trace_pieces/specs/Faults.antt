-- The faults of traces of any length.
use Rattle.std.specs.Prelude.{ℕ, ◌+◌}
use Rattle.trace_reader.specs.declared.fault.TraceFault.{TraceFault}
use Rattle.trace_reader.specs.declared.fault.TraceFault.TheVariants as fault
use Rattle.trace_pieces.specs.declared.fault.WholeFault.{WholeFault}
use Rattle.trace_pieces.specs.declared.fault.WholeFault.TheVariants as whole

-- the fault of a trace, whose records may have any number
abbrev pub trace_fault_of : WholeFault → TraceFault
trace_fault_of whole.NoHeader = fault.NoHeader
trace_fault_of (whole.FieldTwice field) = fault.FieldTwice field
trace_fault_of (whole.FieldMissing field) = fault.FieldMissing field
trace_fault_of (whole.FieldCount n) = fault.FieldCount n
trace_fault_of (whole.BadNumber n field) = fault.BadNumber n field

-- the same fault in a trace that has so many records more before it
abbrev pub after_records : ℕ → TraceFault → TraceFault
after_records n fault.TraceTooLong = fault.TraceTooLong
after_records n fault.NoHeader = fault.NoHeader
after_records n (fault.FieldTwice field) = fault.FieldTwice field
after_records n (fault.FieldMissing field) = fault.FieldMissing field
after_records n (fault.FieldCount k) = fault.FieldCount (n + k)
after_records n (fault.BadNumber k field) = fault.BadNumber (n + k) field
after_records n fault.TooManyPackets = fault.TooManyPackets
after_records n (fault.TooManySwitches k) = fault.TooManySwitches (n + k)
