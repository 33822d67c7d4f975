-- How the packets of a piece end.
use Rattle.std.specs.Prelude.{⊤}
use Rattle.trace_reader.specs.declared.fault.{TraceFault.TraceFault, TraceAnswer.TraceAnswer}
use Rattle.trace_reader.specs.declared.fault.TraceAnswer.TheVariants as answers
use Rattle.marple_base.specs.declared.write_error.WriteError.{WriteError}
use Rattle.marple_base.specs.declared.write_error.WriteError.TheVariants as writes
use Rattle.trace_split.specs.declared.piece.PieceError.{PieceError}
use Rattle.trace_split.specs.declared.piece.PieceError.TheVariants as piece

-- a fact of the fault, where a piece is refused
abbrev pub IfPieceRefused : PieceError → (TraceFault → Type 0) → Type 0
IfPieceRefused (piece.Refused found) P = P found
IfPieceRefused piece.OutputFault P = ⊤
IfPieceRefused piece.Memory P = ⊤

abbrev pub error_of : TraceAnswer → PieceError
error_of (answers.Refused found) = piece.Refused found
error_of answers.Memory = piece.Memory

abbrev pub write_error_of : WriteError → PieceError
write_error_of writes.Failed = piece.OutputFault
write_error_of writes.Memory = piece.Memory
