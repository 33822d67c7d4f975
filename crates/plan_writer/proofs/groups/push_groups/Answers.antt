use Rattle.plan_writer.{specs.PlanText.group_text, proofs.Plans.groups_more}
use Rattle.plan_writer.proofs.groups.push_groups.Goals as goal

pub loop-i-preserved : goal.loop-i-preserved
loop-i-preserved c = groups_more (group_text c.args.q.now) c.loop-i.i c.args.text.now c.loop-i.text c.push_group_at.new.text
    c.loop-i.invariant c.in_ok-push_group_at.ensures
