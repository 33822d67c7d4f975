-- Departures climb, so those up to now are at the front and, taken off, change no count at a later time.
use Rattle.std.proofs.Common.{◌≡◌, ◌<◌, ◌∙◌, ◌∷◌, ap, length, drop, arith}
use Rattle.queue_sim.proofs.QueueFacts.{all_by_first, climbs_rest, front_is, still_rest}
use Rattle.queue_sim.proofs.queue.drop_left.Goals as goal

pub loop-turn-preserved : goal.loop-turn-preserved
loop-turn-preserved c =
    let xs = c.loop-turn.waiting.items in
    let tout = c.in-Some.tout.now in
    let some : 0 < length xs = omega (arith, c.in-Some.ensures.variant) in
    let first = front_is xs tout c.in-Some.ensures.lookup some in
    let rest = c.pop_front.ensures.rest in
    let is : xs ≡ tout ∷ c.pop_front.new.self.items = rw rest first in
    record {
      kept = λ top up. climbs_rest tout top xs c.pop_front.new.self.items is (c.loop-turn.invariant.kept top up);
      later = λ time from. still_rest time tout xs c.pop_front.new.self.items is (omega (arith, c.if-tout-now.true, from))
          ∙ c.loop-turn.invariant.later time from;
      left = omega (arith, ap length is, c.loop-turn.invariant.left);
    }

pub returns-in_default-clause-all : goal.returns-in_default-clause-all
returns-in_default-clause-all c top up =
    let xs = c.loop-turn.waiting.items in
    let tout = c.in-Some.tout.now in
    let some : 0 < length xs = omega (arith, c.in-Some.ensures.variant) in
    all_by_first c.args.now tout top xs (drop 1 xs) (front_is xs tout c.in-Some.ensures.lookup some) c.if-tout-now.false
    (c.loop-turn.invariant.kept top up)
