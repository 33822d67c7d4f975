-- A packet's departure comes after all that wait, so the queue holds the departures still ahead at any later time.
use Rattle.std.proofs.Common.{◌+◌, ◌∙◌, refl, arith}
use Rattle.queue_sim.proofs.QueueFacts.{climbs_push, still_more}
use Rattle.queue_sim.proofs.queue.Queue.arrive.Goals as goal

pub returns-clause-holds : goal.returns-clause-holds
returns-clause-holds c before touts holds from =
    let items = c.in_ok-push_back.ensures.items in
    let waiting = c.drop_left.new.waiting.items in
    let tout = c.max.result + c.args.length in
    record {
      waiting = λ later after. rw items (still_more waiting touts later tout
          (c.drop_left.ensures.later later after ∙ holds.waiting later (omega (arith, from, after))));
      last = refl;
      climbs = rw items (climbs_push waiting c.args.self.now.last tout (c.drop_left.ensures.kept c.args.self.now.last c.requires.climbs)
          (omega (arith, c.max.ensures)));
    }
