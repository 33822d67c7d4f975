use Rattle.std.proofs.Common.{◌≡◌, length}
use Rattle.queue_sim.specs.Following.{AreEmpty}
use Rattle.queue_sim.proofs.generator.empty_queues.Given as goal

abbrev pub invariant-loop-switch : goal.invariant-loop-switch
invariant-loop-switch l = record { size : length l.queues.items ≡ l._switch; empty : AreEmpty l.queues.items }
