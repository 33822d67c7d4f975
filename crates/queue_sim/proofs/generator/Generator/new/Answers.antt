use Rattle.std.proofs.Common.{refl}
use Rattle.queue_sim.{specs.Generator.{arrivals, state_after}, proofs.FollowingFacts.{empty_at, no_number}}
use Rattle.queue_sim.proofs.generator.Generator.new.Goals as goal

pub returns-clause-follows : goal.returns-clause-follows
unfolding arrivals state_after
returns-clause-follows c = record {
  draws = c.new-draws.ensures;
  time = refl;
  size = refl;
  switches = c.in_ok-queues.ensures.len;
  flows = λ flow within. no_number 64 flow;
  queues = λ switch queue here. empty_at c.in_ok-queues.queues.items switch queue c.in_ok-queues.ensures.empty here;
}
