use Rattle.plan_writer.proofs.Pieces.{fields_more}
use Rattle.plan_writer.proofs.lines.push_fields.Goals as goal

pub loop-f-preserved : goal.loop-f-preserved
loop-f-preserved c = fields_more c.args.reads c.args.fields.now c.loop-f.f-index _ c.args.text.now c.loop-f.text c.push_field.new.text
    c.loop-f-test.true c.loop-f.invariant c.in_ok-push_field.ensures
