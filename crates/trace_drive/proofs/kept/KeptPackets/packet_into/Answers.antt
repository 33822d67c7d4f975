-- The words from a packet's place on, as many as there are kept fields, are that packet with 0 in the others.
use Rattle.std.{proofs.Common.{◌≡◌, ◌*◌, Some, drop, length, sym, ap, ap₂, ◌∙◌, arith}, specs.List.slice_get}
use Rattle.trace_drive.{specs.Kept.packet_in, proofs.KeptFacts.{packet_at, packet_there, packets_long}}
use Rattle.trace_drive.proofs.kept.KeptPackets.packet_into.Goals as goal

pub row_into-requires : goal.row_into-requires
row_into-requires c =
    let wide : length c.self.inside.fields.items ≡ c.len.result = sym (c.len.ensures ∙ c.self.inside.fields.ok.0) in
    let there = packet_there c.self.inside _ c.args.at c.len.result c.self.view_is c.requires c.self.invariant wide in
    omega (arith, there, ap length c.deref.ensures.value ∙ wide)

pub overflow_mul-start : goal.overflow_mul-start
overflow_mul-start c =
    let wide = sym (c.len.ensures ∙ c.self.inside.fields.ok.0) in
    omega (arith, packet_there c.self.inside _ c.args.at c.len.result c.self.view_is c.requires c.self.invariant wide)

pub returns : goal.returns
returns c =
    let kept = c.self.inside in
    let fields = kept.fields.items in
    let long = packets_long fields kept.count kept.words in
    let same = ap (λ k. length k.packets) c.self.view_is in
    let row = ap (λ n. drop (c.args.at * n) kept.words) (c.len.ensures ∙ kept.fields.ok.0) in
    let found = c.row_into.ensures ∙ ap₂ packet_in c.deref.ensures.value row in
    ap (λ k. slice_get k.packets c.args.at) (sym c.self.view_is)
    ∙ packet_at fields kept.count kept.words c.args.at (omega arith)
    ∙ ap Some (sym found)
