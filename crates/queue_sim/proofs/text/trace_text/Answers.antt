-- Each packet adds its line, so the text so far is that of the packets so far.
use Rattle.std.proofs.{Common.{◌++◌, [], ◌∙◌, ap, get_or, length, sym, refl, take, ◌<◌, arith}, lemmas.List.{take_all, take_more}}
use Rattle.queue_sim.{specs.TraceText.{line, packet_texts, trace_text}, proofs.TextFacts.trace_push}
use Rattle.marple_base.specs.declared.field.Packet.{Packet}
use Rattle.queue_sim.proofs.text.trace_text.Goals as goal

pub loop-packet-init : goal.loop-packet-init
loop-packet-init c = c.in_ok-text.ensures ∙ refl

pub loop-packet-preserved : goal.loop-packet-preserved
loop-packet-preserved c =
    let packets = c.args.packets.now in
    let i = c.loop-packet.packet-index in
    let slice = c.as_slice-packet-items.ensures in
    let none : Packet = record { words = [] } in
    let within : i < length packets = omega (arith, ap length slice, c.loop-packet-test.true) in
    let written = c.in_ok-push_slice.ensures.ok ∙ ap (λ more. c.loop-packet.text ++ more) c.format.ensures
    ∙ ap (λ ps. c.loop-packet.text ++ line (packet_texts (get_or ps i none))) slice in
    written ∙ rw c.loop-packet.invariant (sym (trace_push (take i packets) (get_or packets i none))
    ∙ ap trace_text (sym (take_more packets i none within)))

pub returns : goal.returns
returns c = c.loop-packet.invariant ∙ ap trace_text (take_all c.loop-packet.packet-index c.args.packets.now
    (omega (arith, ap length c.as_slice-packet-items.ensures, c.loop-packet-test.false)))
