-- Each turn sends the next packet of the generator, which are those simulated so far.
use Rattle.std.proofs.Common.{◌≡◌, ◌+◌, ◌∙◌, ap, refl, sym}
use Rattle.queue_sim.{specs.Following.nth_packet, proofs.FollowingFacts.{simulated_more, simulated_none}}
use Rattle.queue_sim.proofs.generator.simulate.Goals as goal

pub loop-packet-init : goal.loop-packet-init
loop-packet-init c = record {
  follows = c.in_ok-generator.ensures.follows;
  number = c.in_ok-generator.ensures.first.0;
  start = c.in_ok-generator.ensures.first.1;
  capacity = c.in_ok-generator.ensures.first.2;
  sent = c.in_ok-sent.ensures.items ∙ sym (simulated_none c.args.start c.args.capacity);
}

pub loop-packet-preserved : goal.loop-packet-preserved
loop-packet-preserved c =
    let i = c.loop-packet.invariant in
    let done = c.loop-packet._packet in
    let next = c.in_ok-next.ensures in
    let packet : c.in_ok-next.field-0 ≡ nth_packet c.args.start c.args.capacity done = next.packet
    ∙ rw (i.start, i.capacity, i.number) refl in
    record {
      follows = next.follows;
      number = next.number ∙ ap (λ n. n + 1) i.number;
      start = next.same.0 ∙ i.start;
      capacity = next.same.1 ∙ i.capacity;
      sent = c.in_ok-push.ensures.items ∙ rw (i.sent, packet) (sym (simulated_more c.args.start c.args.capacity done));
    }
