use Rattle.std.proofs.Common.{arith}
use Rattle.queue_sim.proofs.FollowingFacts.{empty_push}
use Rattle.queue_sim.proofs.generator.empty_queues.Goals as goal

pub loop-switch-preserved : goal.loop-switch-preserved
loop-switch-preserved c =
    record {
      size = omega (arith, c.in_ok-push.ensures.len, c.loop-switch.invariant.size, c.push.new.self.ok, c.loop-switch.queues.ok);
      empty = rw c.in_ok-push.ensures.items (empty_push c.loop-switch.queues.items c.new.result c.loop-switch.invariant.empty
          c.new.ensures);
    }
