-- The line of a packet added to what waits at its own part makes the texts hold one packet more.
use Rattle.std.proofs.Common.{◌≡◌, ◌++◌, ◌∷◌, ◌∙◌, [], List, Some, ap, arith, length, refl, set, slice_get, subst}
use Rattle.std.proofs.lemmas.Option.{slice_get_read}
use Rattle.marple_base.specs.{declared.field.Packet.Packet, Pieces.TakesAllBut, Sink.TakesFront}
use Rattle.queue_sim.specs.TraceText.{fields_line}
use Rattle.part_texts.specs.Texts.{part_by_hash}
use Rattle.trace_split.specs.{Holding.{Holds, TakeFronts, Taken}, PartTexts.{HoldsPackets, partition_of, texts_of}}
use Rattle.trace_split.proofs.{AddFacts.{on_err, on_ok}, HoldFacts.{fronts_more, holds_add}}
use Rattle.trace_split.proofs.texts.PartTexts.add.Goals as goal

pub returns-clause-ok : goal.returns-clause-ok
returns-clause-ok g c =
    let texts = c.args.self.now in
    let waiting = texts.waiting.items in
    let part = c.part_of-part.result in
    let before = c.index_mut-waiting.result.now in
    let words = c.args.packet.now.words in
    let old = g.P.Parts.taken c.args.parts.now in
    let new = g.P.Parts.taken c.add_line.new.parts in
    let here : slice_get waiting part ≡ Some before =
    slice_get_read waiting (length waiting) part before refl (omega (arith, c.part_of-part.ensures.below, c.requires.buffers))
    c.index_mut-waiting.ensures.value in
    let own : part ≡ partition_of texts words = c.part_of-part.ensures.part
    ∙ ap (λ by. part_by_hash by texts.salt texts.parts words) c.as_slice.ensures.value in
    let line : c.format-line.result.now ≡ fields_line texts.columns.items words = c.format-line.ensures
    ∙ ap (λ fields. fields_line fields words) c.as_slice-2.ensures.value in
    let later = c.add_line.new.waiting in
    on_ok c.add_line.result (TakesAllBut (old part) (new part) later (before ++ c.format-line.result.now))
    ((first : Taken) (sent : List Packet) → HoldsPackets first old texts sent
    → Holds first new (set waiting part later) (texts_of texts (sent ++ c.args.packet.now ∷ [])))
    (λ took first sent holds. holds_add first old new waiting later texts.columns.items (partition_of texts) sent c.args.packet.now part
    before own here
    (subst (λ l. TakesAllBut (old part) (new part) later (before ++ l)) line took) c.add_line.ensures.others holds) c.add_line.ensures.ok

pub returns-clause-err : goal.returns-clause-err
returns-clause-err g c =
    let texts = c.args.self.now in
    let waiting = texts.waiting.items in
    let part = c.part_of-part.result in
    let before = c.index_mut-waiting.result.now in
    let old = g.P.Parts.taken c.args.parts.now in
    let new = g.P.Parts.taken c.add_line.new.parts in
    let here : slice_get waiting part ≡ Some before =
    slice_get_read waiting (length waiting) part before refl (omega (arith, c.part_of-part.ensures.below, c.requires.buffers))
    c.index_mut-waiting.ensures.value in
    on_err c.add_line.result (TakesFront (old part) (new part) before)
    ((first : Taken) (sent : List Packet) → HoldsPackets first old texts sent → TakeFronts texts.parts first new (texts_of texts sent))
    (λ front first sent holds. fronts_more first old new waiting (texts_of texts sent) texts.parts part before c.requires.buffers here front
    c.add_line.ensures.others holds)
    c.add_line.ensures.err
