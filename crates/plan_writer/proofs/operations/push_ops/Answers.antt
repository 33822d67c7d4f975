use Rattle.plan_writer.{specs.PlanText.op_line, proofs.Plans.items_more}
use Rattle.plan_writer.proofs.operations.push_ops.Goals as goal

pub loop-number-preserved : goal.loop-number-preserved
loop-number-preserved c = items_more op_line c.args.p.now.ops c.loop-number.number c.op.result c.args.text.now c.loop-number.text
    c.push_op.new.text c.op.ensures c.loop-number.invariant c.in_ok-push_op.ensures
