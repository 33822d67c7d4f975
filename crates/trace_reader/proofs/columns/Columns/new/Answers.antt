-- The fields so far that have a column were added with it, so what is read are the columns of these fields.
use Rattle.std.proofs.{Common.{rules, sym, ◌∙◌, ap, ◌++◌}, lemmas.List.{append-nil, drop_all}}
use Rattle.marple_base.specs.Field.{all_fields}
use Rattle.marple_base.specs.declared.field.Field.TheVariants as f
use Rattle.trace_reader.{specs.Columns.read_columns, proofs.WordFacts.{found_more, not_some, read_none, read_one}}
use Rattle.trace_reader.proofs.columns.Columns.new.Goals as goal
use Rattle.trace_reader.proofs.columns.Columns.new.Goals.{in-Some+in_ok-push, in_default}

pub loop-i-init : goal.loop-i-init
unfolding read_columns
loop-i-init c = rw c.new-read.ensures.items

pub loop-i-preserved : goal.loop-i-preserved
loop-i-preserved c =
    let columns = c.args.of_fields in
    let i = c.loop-i.i in
    elim c.match-of_fields-i.branch [
      | in-Some+in_ok-push w ↦
          let more = read_one columns all_fields i f.Switch w.in-Some.column c.loop-i-test.true (search rules) w.in-Some.is in
          rw w.read-is (found_more _ _ _ _ _ _ c.loop-i.invariant more w.in_ok-push.ensures.items)
      | in_default w ↦
          let more = read_none columns all_fields i f.Switch c.loop-i-test.true (search rules) (not_some _ w.in_default.not-Some) in
          rw w.read-is (c.loop-i.invariant ∙ ap (λ rest. c.loop-i.read.items ++ rest) more)
    ]

pub invariant_of-result : goal.invariant_of-result
invariant_of-result c =
    let none = drop_all c.loop-i.i all_fields c.loop-i-test.false in
    (sym (c.loop-i.invariant ∙ rw none (append-nil c.loop-i.read.items)), search rules)
