-- Times and numbers stay small, so the next packet is the one after those that the generator follows.
use Rattle.std.proofs.{Common.{◌≡◌, ◌+◌, ◌*◌, ◌%◌, ◌∷◌, ◌∙◌, ap, add-one, refl, sym, arith}, Math.ListN.length-set}
use Rattle.std.proofs.lemmas.Option.{slice_get_read}
use Rattle.queue_sim.specs.Generator.{Arrival, arrivals, drawn_after, generated_packet, state_after, touts_at}
use Rattle.queue_sim.proofs.Bounds.{number_small, time_small, tout_small}
use Rattle.queue_sim.proofs.FollowingFacts.{arrivals_more, arrived, flows_next, queues_next}
use Rattle.queue_sim.proofs.generator.Generator.next.Goals as goal

pub overflow_add-self-2 : goal.overflow_add-self-2
overflow_add-self-2 c =
    let g = c.args.self.now in
    omega (arith, c.requires.follows.time, time_small g.start g.capacity g.number, c.requires.more, c.next_packet-drawn.ensures.small)

pub next_seq-seq-requires-clause-fits : goal.next_seq-seq-requires-clause-fits
next_seq-seq-requires-clause-fits c =
    let g = c.args.self.now in
    let flow = c.next_packet-drawn.result.flow in
    let at = c.requires.follows.flows flow c.next_packet-drawn.ensures.small.1 in
    omega (arith, at, number_small g.start g.capacity g.number flow, c.requires.more, c.next_packet-drawn.ensures.small)

pub arrive-requires : goal.arrive-requires
arrive-requires c =
    let g = c.args.self.now in
    let switch = c.next_packet-drawn.result.flow % 4 in
    let here = slice_get_read g.queues.items _ switch _ refl (omega (arith, c.requires.follows.switches)) c.index_mut-queue.ensures.value in
    let holds = c.requires.follows.queues switch _ here in
    let tout = tout_small g.start g.capacity g.number switch in
    let time = time_small g.start g.capacity g.number in
    record {
      fits = omega (arith, holds.last, tout, c.requires.follows.time, time, c.requires.more, c.next_packet-drawn.ensures.small);
      climbs = holds.climbs;
    }

pub packet_of-requires : goal.packet_of-requires
packet_of-requires c =
    let g = c.args.self.now in
    let flow = c.next_packet-drawn.result.flow in
    let at = c.requires.follows.flows flow c.next_packet-drawn.ensures.small.1 in
    let number = number_small g.start g.capacity g.number flow in
    let time = time_small g.start g.capacity g.number in
    record {
      small = (
        omega (arith, c.requires.more),
        omega (arith, c.requires.follows.time, time, c.requires.more, c.next_packet-drawn.ensures.small),
        omega (arith, c.next_seq-seq.ensures.seq, at, number, c.requires.more, c.next_packet-drawn.ensures.small),
        c.next_packet-drawn.ensures.small.1,
        c.next_packet-drawn.ensures.small.2,
      );
    }

pub returns : goal.returns
returns c =
    let g = c.args.self.now in
    let d = c.next_packet-drawn.result in
    let place = c.in_ok-place.place in
    let earlier = arrivals g.start g.capacity g.number in
    let switch = d.flow % 4 in
    let here = slice_get_read g.queues.items _ switch _ refl (omega (arith, c.requires.follows.switches)) c.index_mut-queue.ensures.value in
    let holds = c.requires.follows.queues switch _ here in
    let drawn = c.next_packet-drawn.ensures.drawn g.start (4 * g.number) c.requires.follows.draws in
    let time = ap (λ t. t + d.gap) c.requires.follows.time in
    let seq = c.next_seq-seq.ensures.seq ∙ ap (λ n. n + d.skipped) (c.requires.follows.flows d.flow c.next_packet-drawn.ensures.small.1) in
    let qsize = c.in_ok-place.ensures.qsize g.time (touts_at switch earlier) holds (omega arith) in
    let is = arrived earlier g.capacity d (drawn_after g.start (4 * g.number)) (g.time + d.gap) c.next_seq-seq.result
    place.qsize _ place.tout drawn.1 time seq qsize c.in_ok-place.ensures.tout holds.last in
    let a : Arrival =
    record {
      time = g.time + d.gap;
      flow = d.flow;
      payload = d.payload;
      seq = c.next_seq-seq.result;
      qsize = place.qsize;
      tout = place.tout;
    } in
    let more : arrivals g.start g.capacity (g.number + 1) ≡ a ∷ earlier = arrivals_more g.start g.capacity g.number
    ∙ ap (λ (b : Arrival). b ∷ earlier) (sym is) in
    record {
      follows = record {
        draws = drawn.0 ∙ ap (state_after g.start) (omega arith);
        time = rw more refl;
        size = rw c.next_seq-seq.ensures.flows (length-set g.flows d.flow (c.next_seq-seq.result + d.payload) ∙ c.requires.follows.size);
        switches = length-set g.queues.items switch c.arrive.new.self ∙ c.requires.follows.switches;
        flows = rw (more, c.next_seq-seq.ensures.flows) (flows_next g.flows earlier a (c.next_seq-seq.result + d.payload)
            c.requires.follows.size c.next_packet-drawn.ensures.small.1 refl c.requires.follows.flows);
        queues = rw more (queues_next g.queues.items c.arrive.new.self earlier a g.time (omega arith) c.requires.follows.queues
            (c.in_ok-place.ensures.holds g.time (touts_at switch earlier) holds (omega arith)));
      };
      number = refl;
      same = (refl, refl);
      packet = c.packet_of.ensures ∙ ap (generated_packet (g.number + 1)) is ∙ rw (add-one g.number) refl;
    }
