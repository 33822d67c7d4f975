-- A packet's words of the kept fields, after all others, make one more packet, and their number stays small.
use Rattle.std.proofs.Common.{◌+◌, ◌++◌, [], ◌∷◌, length, map, ap, ◌∙◌, arith}
use Rattle.trace_drive.{specs.{Kept.{Kept, kept_of, word_in}, KeptView.packets_in}, proofs.KeptFacts.{kept_more, packets_long}}
use Rattle.trace_drive.proofs.kept.KeptPackets.push.Goals as goal

pub overflow_add-self : goal.overflow_add-self
overflow_add-self c =
    let kept = c.self.inside in
    let long = packets_long kept.fields.items kept.count kept.words in
    let same = ap (λ k. length k.packets) c.self.view_is in
    omega arith

pub returns-clause-ok : goal.returns-clause-ok
returns-clause-ok c =
    let kept = c.self.inside in
    let packet = c.args.packet.now in
    let fields = kept.fields.items in
    let words = kept.words in
    let row = c.in_ok-push_row.ensures.ok ∙ ap (λ fs. words ++ map (word_in packet) fs) c.deref.ensures.value in
    let more = kept_more kept.of fields kept.count words packet c.self.invariant.fields c.self.invariant.words in
    ap (λ packets. let k : Kept = record { fields = kept.of; packets = packets } in k) (ap (packets_in fields (kept.count + 1)) row ∙ more)
    ∙ ap (λ (k : Kept). let next : Kept = record { fields = k.fields; packets = k.packets ++ kept_of k.fields packet ∷ [] } in next)
    c.self.view_is
