use Rattle.std.proofs.Common.{◌≡◌, take}
use Rattle.csv.specs.declared.parser.State.TheVariants as st
use Rattle.trace_pieces.specs.Machine.{IsCut, state_of, state_over}
use Rattle.trace_pieces.proofs.cuts.cut_by_bytes.Given as goal

abbrev pub invariant-loop-i : goal.invariant-loop-i
invariant-loop-i l = record {
  place : state_of l.place ≡ state_over st.StartRecord (take l.i l.text);
  cut : IsCut l.text l.cut;
}
