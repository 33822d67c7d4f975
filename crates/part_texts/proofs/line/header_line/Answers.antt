-- The names so far, and the others each after a comma, are the line of all names.
use Rattle.std.proofs.Common.{◌+◌, ◌++◌, ◌∙◌, ap, drop, get_or, map}
use Rattle.marple_base.specs.{Field.field_name, declared.field.Field.TheVariants.Switch}
use Rattle.queue_sim.specs.TraceText.{continued}
use Rattle.part_texts.proofs.LineFacts.{names_more}
use Rattle.part_texts.proofs.line.header_line.Goals as goal

pub loop-i-preserved : goal.loop-i-preserved
loop-i-preserved c =
    let fields = c.args.fields.now in
    let i = c.loop-i.i in
    let pushed =
    c.in_ok-push_slice.ensures.ok ∙ ap (λ name. c.push.new.self ++ name) c.name-in-loop-i.ensures
    ∙ ap (λ text. text ++ field_name (get_or fields i Switch)) c.in_ok-push.ensures.ok in
    ap (λ text. text ++ continued (drop (i + 1) (map field_name fields))) pushed
    ∙ names_more fields c.loop-i.text i c.loop-i-test.true c.loop-i.invariant
