-- Of the fields so far those in the set were added, in the order of all fields.
use Rattle.std.proofs.{Common.{◌+◌, ◌++◌, [], ◌∷◌, drop, get_or, sym, ap, ◌∙◌, append_assoc}, lemmas.List.{append-nil, drop_all}}
use Rattle.marple_base.specs.Field.{all_fields}
use Rattle.marple_base.specs.declared.field.Field.TheVariants as f
use Rattle.trace_drive.{specs.Kept.fields_among, proofs.KeptFacts.{among_none, among_one, among_other}}
use Rattle.trace_drive.proofs.kept.fields_of.Goals as goal
use Rattle.trace_drive.proofs.kept.fields_of.Goals.{then-has+in_ok-push, else-has}

pub loop-field-preserved : goal.loop-field-preserved
loop-field-preserved c =
    let set = c.args.set in
    let i = c.loop-field.field-index in
    let so_far = c.loop-field.fields.items in
    elim c.if-has.branch [
      | then-has+in_ok-push w ↦
          let one = among_one set all_fields i f.Switch c.loop-field-test.true (sym c.has.ensures ∙ w.if-has.true) in
          rw (w.fields-is, w.in_ok-push.ensures.items)
          (c.loop-field.invariant ∙ (ap (λ rest. so_far ++ rest) one ∙ sym
          (append_assoc so_far (get_or all_fields i f.Switch ∷ []) (fields_among (drop (i + 1) all_fields) set))))
      | else-has w ↦
          let other = among_other set all_fields i f.Switch c.loop-field-test.true (sym c.has.ensures ∙ w.if-has.false) in
          rw w.fields-is (c.loop-field.invariant ∙ ap (λ rest. so_far ++ rest) other)
    ]

pub returns : goal.returns
returns c =
    let none = drop_all c.loop-field.field-index all_fields c.loop-field-test.false in
    sym (c.loop-field.invariant ∙ rw (none, among_none) (append-nil c.loop-field.fields.items))
