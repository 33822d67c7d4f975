use Rattle.std.{proofs.Common.{◌≡◌, ◌++◌, drop}, specs.List.zip}
use Rattle.marple_base.specs.Field.{all_fields}
use Rattle.trace_reader.specs.Columns.{read_columns, read_of}
use Rattle.trace_reader.proofs.columns.Columns.new.Given as goal

abbrev pub invariant-loop-i : goal.invariant-loop-i
invariant-loop-i l = read_columns l.of_fields ≡ l.read.items ++ read_of (zip (drop l.i all_fields) (drop l.i l.of_fields))
