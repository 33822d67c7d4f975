-- The bytes read in search of the header go on with what the input lost, and at least three are aimed for.
use Rattle.std.proofs.Common.{◌≡◌, ◌≤◌}
use Rattle.marple_base.specs.{Inputs.IsOpen, declared.inputs.Which.TheVariants.{Query, Trace}}
use Rattle.trace_pieces.specs.Reads.{Goes}
use Rattle.trace_split.proofs.split.read_head.Given as goal

-- the bytes go on with what the input no longer has
abbrev pub invariant-loop-turn : goal.invariant-loop-turn
invariant-loop-turn g l =
    let first = g.I.Inputs.input l.fn.inputs Trace in
    let now = g.I.Inputs.input l.inputs Trace in
    record {
      opened : IsOpen now;
      goes : Goes first.left now.left l.fn.bytes.items l.bytes.items;
      target : 3 ≤ l.target;
      later : first.faults ≤ now.faults;
      query : g.I.Inputs.input l.inputs Query ≡ g.I.Inputs.input l.fn.inputs Query;
    }
