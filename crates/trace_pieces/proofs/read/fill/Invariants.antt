-- The bytes go on with what the input lost since the start, and the query's input is untouched.
use Rattle.std.proofs.Common.{◌≡◌, ◌≤◌, ◌-◌, vec_len}
use Rattle.marple_base.specs.{Inputs.IsOpen, declared.inputs.Which.TheVariants.{Query, Trace}}
use Rattle.trace_pieces.specs.Reads.{Goes}
use Rattle.trace_pieces.proofs.read.fill.Given as goal

-- the bytes go on with what the input no longer has
abbrev pub invariant-chunks : goal.invariant-chunks
invariant-chunks g l =
    let first = g.I.Inputs.input l.fn.inputs Trace in
    let now = g.I.Inputs.input l.inputs Trace in
    record {
      opened : IsOpen now;
      goes : Goes first.left now.left l.fn.bytes.items l.bytes.items;
      later : first.faults ≤ now.faults;
      query : g.I.Inputs.input l.inputs Query ≡ g.I.Inputs.input l.fn.inputs Query;
    }

abbrev pub decreases-chunks : goal.decreases-chunks
decreases-chunks g l = l.target - vec_len l.bytes
