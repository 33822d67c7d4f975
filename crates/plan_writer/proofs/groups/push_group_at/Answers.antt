use Rattle.std.proofs.Common.{◌++◌, ap, ◌∙◌}
use Rattle.plan_writer.proofs.Plans.{group_is}
use Rattle.plan_writer.proofs.groups.push_group_at.Goals as goal

pub returns : goal.returns
returns c = c.in_ok-push_group.ensures ∙ ap (λ l. c.args.text.now ++ l)
    (group_is c.args.q.now c.args.p.now c.args.i c.group.result.now c.wiring.result.now c.fold_of.result.now c.requires.plan
    c.group.ensures c.wiring.ensures c.fold_of.ensures.found)
