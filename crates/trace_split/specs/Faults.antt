-- Why a trace isn't split.
use Rattle.std.specs.Prelude.{⊤}
use Rattle.marple_base.specs.declared.reading.ReadAnswer.{ReadAnswer}
use Rattle.marple_base.specs.declared.reading.ReadAnswer.TheVariants as read
use Rattle.marple_base.specs.declared.write_error.WriteError.{WriteError}
use Rattle.marple_base.specs.declared.write_error.WriteError.TheVariants as write
use Rattle.trace_pieces.specs.declared.fault.WholeFault.{WholeFault}
use Rattle.trace_split.specs.declared.fault.SplitError.{SplitError}
use Rattle.trace_split.specs.declared.fault.SplitError.TheVariants as error

-- the error of a text that wasn't written
abbrev pub error_for : WriteError → SplitError
error_for write.Failed = error.OutputFault
error_for write.Memory = error.Memory

-- the error of a trace that wasn't read
abbrev pub error_at : ReadAnswer → SplitError
error_at read.Failed = error.InputFault
error_at read.Memory = error.Memory

-- a fact of the fault, where a trace is refused
abbrev pub IfSplitRefused : SplitError → (WholeFault → Type 0) → Type 0
IfSplitRefused (error.Refused found) P = P found
IfSplitRefused error.InputFault P = ⊤
IfSplitRefused error.OutputFault P = ⊤
IfSplitRefused error.Memory P = ⊤
