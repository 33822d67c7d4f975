use Rattle.std.proofs.Common.{◌≡◌, drop}
use Rattle.csv.specs.declared.parser.State.TheVariants as st
use Rattle.trace_reader.specs.Reading.{records_after}
use Rattle.trace_reader.proofs.plain.after_line_ends.Given as goal

abbrev pub invariant-loop-at : goal.invariant-loop-at
invariant-loop-at l = records_after st.StartRecord (drop l.at l.text) ≡ records_after st.StartRecord (drop l.from l.text)
