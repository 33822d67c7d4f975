use Rattle.plan_writer.proofs.Plans.{head_is}
use Rattle.plan_writer.proofs.lines.push_head.Goals as goal

pub returns : goal.returns
returns c = head_is c.args.reads c.args.text.now c.push_slice.new.self c.push_fields.new.text c.push.new.self c.in_ok-push_slice.ensures.ok
    c.in_ok-push_fields.ensures c.in_ok-push.ensures.ok
