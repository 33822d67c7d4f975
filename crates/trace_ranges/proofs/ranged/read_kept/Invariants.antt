-- What is kept of the rest of the trace is what was kept of it at the start, for nothing was given so far.
use Rattle.std.{proofs.Common.{◌≡◌, ◌≤◌, length}, specs.Io.KnownBytes.Keeps}
use Rattle.marple_base.specs.{Inputs.IsOpen, declared.inputs.Which.TheVariants.{Query, Trace}}
use Rattle.trace_ranges.specs.Ranges.{kept_input}
use Rattle.trace_ranges.proofs.ranged.read_kept.Given as goal

-- nothing was kept so far
abbrev pub invariant-chunks : goal.invariant-chunks
invariant-chunks g l = record {
  kept : Keeps (kept_input l.fn.window (g.I.Inputs.input l.fn.inputs Trace)).left
      (kept_input l.window (g.I.Inputs.input l.inputs Trace)).left;
  opened : IsOpen (g.I.Inputs.input l.inputs Trace);
  later : (g.I.Inputs.input l.fn.inputs Trace).faults ≤ (g.I.Inputs.input l.inputs Trace).faults;
  other : g.I.Inputs.input l.inputs Query ≡ g.I.Inputs.input l.fn.inputs Query;
  room : length l.buf ≡ length l.fn.buf;
  chunk : length l.chunk ≡ 65536;
}

abbrev pub decreases-chunks : goal.decreases-chunks
decreases-chunks g l = l.window.to
