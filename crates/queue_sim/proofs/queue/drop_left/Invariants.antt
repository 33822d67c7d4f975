use Rattle.std.proofs.Common.{◌≡◌, ℕ, ◌≤◌, ◌+◌, length}
use Rattle.queue_sim.specs.{Generator.still_there, Queue.Climbs}
use Rattle.queue_sim.proofs.queue.drop_left.Given as goal

abbrev pub invariant-loop-turn : goal.invariant-loop-turn
invariant-loop-turn l =
    record {
      kept : (top : ℕ) → Climbs l.initial.waiting.items top → Climbs l.waiting.items top;
      later : (time : ℕ) → l.now ≤ time → still_there time l.waiting.items ≡ still_there time l.initial.waiting.items;
      left : length l.waiting.items + l._turn ≡ length l.initial.waiting.items;
    }
