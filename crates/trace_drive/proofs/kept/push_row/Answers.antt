-- The words of the fields so far stand after those from before, and one that finds no memory takes them back.
use Rattle.std.proofs.Common.{◌++◌, [], ◌∷◌, ◌∙◌, ap, ap₂, append_assoc, get_or, map, sym, take}
use Rattle.std.proofs.lemmas.{List.{map-append, take_more}, Option.get_or_from_slice_get}
use Rattle.marple_base.specs.Field.{number_of}
use Rattle.marple_base.specs.declared.field.Field.TheVariants as f
use Rattle.trace_drive.specs.Kept.{word_in}
use Rattle.trace_drive.proofs.kept.push_row.Goals as goal

pub loop-field-preserved : goal.loop-field-preserved
loop-field-preserved c =
    let i = c.loop-field.field-index in
    let word = word_in c.args.packet.now in
    let fields = c.args.fields.now in
    let words = c.args.words.now in
    let next = get_or fields i f.Switch in
    let one_more = ap (map word) (take_more fields i f.Switch c.loop-field-test.true) ∙ map-append word (take i fields) (next ∷ []) in
    let got = sym (get_or_from_slice_get c.args.packet.now.words (number_of next) c.get.result 0 c.get.ensures) in
    c.in_default.ensures.ok
    ∙ (ap₂ (λ so_far last. so_far ++ last ∷ []) c.loop-field.invariant got
    ∙ (append_assoc words (map word (take i fields)) (word next ∷ []) ∙ ap (λ row. words ++ row) (sym one_more)))
