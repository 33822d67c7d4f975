use Rattle.std.proofs.Common.{◌≡◌}
use Rattle.queue_sim.specs.{Following.Follows, Generator.simulated}
use Rattle.queue_sim.proofs.generator.simulate.Given as goal

abbrev pub invariant-loop-packet : goal.invariant-loop-packet
invariant-loop-packet l =
    record {
      follows : Follows l.generator;
      number : l.generator.number ≡ l._packet;
      start : l.generator.start ≡ l.start;
      capacity : l.generator.capacity ≡ l.capacity;
      sent : l.sent.items ≡ simulated l._packet l.start l.capacity;
    }
