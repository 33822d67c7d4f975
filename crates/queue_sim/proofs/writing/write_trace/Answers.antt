-- Where writing breaks off, what the sink took is the front of the text so far, which begins that of all packets.
use Rattle.std.proofs.Common.{◌≡◌, ◌+◌, ◌∙◌, ap, sym, refl, subst, arith}
use Rattle.queue_sim.specs.{Following.nth_packet, Generator.simulated, TraceText.{line, packet_texts, trace_text}}
use Rattle.queue_sim.proofs.{FollowingFacts.simulated_none, Pieces.{broken_off, text_more}}
use Rattle.marple_base.{specs.Pieces.TakesAllBut, proofs.Pieces.{all_waits, more_waits, none_taken, on_err, rest_taken, then}}
use Rattle.queue_sim.proofs.writing.write_trace.Goals as goal

pub loop-packet-init : goal.loop-packet-init
loop-packet-init g c =
    let bytes = g.O.Sink.taken c.args.out.now in
    let waiting = c.in_ok-waiting.waiting.items in
    let is : waiting ≡ trace_text (simulated 0 c.args.start c.args.capacity) =
    c.in_ok-waiting.ensures ∙ sym (ap trace_text (simulated_none c.args.start c.args.capacity)) in
    record {
      follows = c.in_ok-generator.ensures.follows;
      number = c.in_ok-generator.ensures.first.0;
      start = c.in_ok-generator.ensures.first.1;
      capacity = c.in_ok-generator.ensures.first.2;
      written = subst (TakesAllBut bytes bytes waiting) is (all_waits bytes waiting);
      out_later = omega arith;
    }

pub returns-in_err-packet-clause-err : goal.returns-in_err-packet-clause-err
returns-in_err-packet-clause-err g c =
    on_err c.from_residual-in_err-packet.result _
    (broken_off _ _ _ _ c.args.start c.args.capacity c.loop-packet._packet c.args.packets (omega (arith, c.loop-packet-test.true))
    c.loop-packet.invariant.written (none_taken (g.O.Sink.taken c.loop-packet.out) c.loop-packet.waiting.items))

pub returns-in_err-add_line-clause-err : goal.returns-in_err-add_line-clause-err
returns-in_err-add_line-clause-err g c =
    on_err c.from_residual-in_err-add_line.result _
    (broken_off _ _ _ _ c.args.start c.args.capacity c.loop-packet._packet c.args.packets (omega (arith, c.loop-packet-test.true))
    c.loop-packet.invariant.written c.in_err-add_line.ensures.err)

pub loop-packet-preserved : goal.loop-packet-preserved
loop-packet-preserved g c =
    let i = c.loop-packet.invariant in
    let done = c.loop-packet._packet in
    let next = c.in_ok-packet.ensures in
    let packet : c.in_ok-packet.packet ≡ nth_packet c.args.start c.args.capacity done = next.packet
    ∙ rw (i.start, i.capacity, i.number) refl in
    let written = c.format.ensures ∙ ap (λ p. line (packet_texts p)) packet in
    record {
      follows = next.follows;
      number = next.number ∙ ap (λ n. n + 1) i.number;
      start = next.same.0 ∙ i.start;
      capacity = next.same.1 ∙ i.capacity;
      written = rw (text_more c.args.start c.args.capacity done, ← written)
          (then _ _ _ _ _ _ (more_waits _ _ _ _ c.format.result.now i.written) c.in_ok-add_line.ensures.ok);
      out_later = omega (arith, i.out_later, c.add_line.ensures.out_later);
    }

pub returns-in_err-write_all-clause-err : goal.returns-in_err-write_all-clause-err
returns-in_err-write_all-clause-err g c =
    on_err c.from_residual-in_err-write_all.result _
    (broken_off _ _ _ _ c.args.start c.args.capacity c.loop-packet._packet c.args.packets (omega arith)
    c.loop-packet.invariant.written (rw c.as_slice.ensures.value at c.in_err-write_all.ensures.front))

pub returns-clause-ok : goal.returns-clause-ok
returns-clause-ok g c =
    let all : c.args.packets ≡ c.loop-packet._packet = omega (arith, c.loop-packet-test.false) in
    rw all (rest_taken _ _ _ _ _ c.loop-packet.invariant.written (rw c.as_slice.ensures.value at c.in_ok-write_all.ensures.ok))
