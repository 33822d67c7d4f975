-- The list has the fields of the set among those so far, no more than there are fields.
use Rattle.std.proofs.Common.{◌∷◌, ◌∙◌, ◌<◌, [], ap, arith, get_or, length, length-append, sym}
use Rattle.marple_base.specs.{Field.all_fields, declared.field.{Field.TheVariants.Switch, TheConstants.FIELDS}}
use Rattle.trace_split.proofs.ListFacts.{field_with, field_without}
use Rattle.trace_split.proofs.splitting.fields_in.Goals as goal
use Rattle.trace_split.proofs.splitting.fields_in.Goals.{then-has+in_ok-push, else-has}

pub loop-field-preserved : goal.loop-field-preserved
loop-field-preserved c =
    let fields = c.args.fields in
    let i = c.loop-field.field-index in
    let list = c.loop-field.list.items in
    let before = c.loop-field.invariant in
    let below : i < FIELDS = c.loop-field-test.true in
    elim c.if-has.branch [
      | then-has+in_ok-push w ↦
          let pushed = w.in_ok-push.ensures.items in
          rw w.list-is (record {
            list = pushed ∙ field_with fields list i below before.list (sym c.has.ensures ∙ w.if-has.true);
            few = omega (arith, ap length pushed, length-append list (get_or all_fields i Switch ∷ []), before.few);
          })
      | else-has w ↦
          rw w.list-is (record {
            list = field_without fields list i below before.list (sym c.has.ensures ∙ w.if-has.false);
            few = omega (arith, before.few);
          })
    ]
