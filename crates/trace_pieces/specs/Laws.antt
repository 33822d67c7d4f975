-- Laws of traces of any length.
use Rattle.std.specs.Prelude.{◌≡◌, ◌≢◌, ◌++◌, ℕ, List, Some}
use Rattle.marple_base.specs.declared.field.FieldSet.{FieldSet}
use Rattle.trace_reader.specs.Traces.{contents, trace_fault}
use Rattle.trace_reader.specs.declared.fault.TraceFault.TheVariants as fault
use Rattle.trace_pieces.specs.{Machine.{EndsBetween, rows}, Wholes.all_contents}

-- Where a trace is within the two limits of one run, one run reads all of it: the same packets and the same first fault.
abbrev pub RunsReadTheWhole : Type 0
RunsReadTheWhole = (text : List ℕ) (reads : FieldSet) → trace_fault text reads ≢ Some fault.TraceTooLong
    → trace_fault text reads ≢ Some fault.TooManyPackets → all_contents text reads ≡ contents text reads

-- A text that is cut between two records has the records of its two parts.
abbrev pub PiecesHaveTheRecords : Type 0
PiecesHaveTheRecords = (text more : List ℕ) → EndsBetween text → rows (text ++ more) ≡ rows text ++ rows more
