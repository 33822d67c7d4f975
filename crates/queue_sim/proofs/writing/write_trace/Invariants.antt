-- All of the text of the packets so far is written but for what waits, and the generator follows these packets.
use Rattle.std.proofs.Common.{◌≡◌, ◌≤◌}
use Rattle.queue_sim.specs.{Following.Follows, Generator.simulated, TraceText.trace_text}
use Rattle.marple_base.specs.Pieces.{TakesAllBut}
use Rattle.queue_sim.proofs.writing.write_trace.Given as goal

-- the text of the packets so far is written, but for what waits
abbrev pub invariant-loop-packet : goal.invariant-loop-packet
invariant-loop-packet g l = record {
  follows : Follows l.generator;
  number : l.generator.number ≡ l._packet;
  start : l.generator.start ≡ l.start;
  capacity : l.generator.capacity ≡ l.capacity;
  written : TakesAllBut (g.O.Sink.taken l.fn.out) (g.O.Sink.taken l.out) l.waiting.items
      (trace_text (simulated l._packet l.start l.capacity));
  out_later : g.O.Sink.faults l.fn.out ≤ g.O.Sink.faults l.out;
}
