use Rattle.plan_writer.proofs.Plans.{text_is}
use Rattle.plan_writer.proofs.writer.plan_file_text.Goals as goal

pub returns : goal.returns
returns c =
    text_is c.args.q.now c.args.p.now c.reads.result c.as_slice.result.now c.new-text.result c.push_head.new.text c.push_ops.new.text
    c.push_groups.new.text c.push_prints.new.text
    c.requires.plan c.reads.ensures c.as_slice.ensures c.new-text.ensures c.in_ok-push_head.ensures c.in_ok-push_ops.ensures
    c.in_ok-push_groups.ensures c.in_ok-push_prints.ensures
