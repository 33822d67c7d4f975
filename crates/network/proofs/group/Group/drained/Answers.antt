use Rattle.std.{proofs.Common.{sym, ap, ◌∙◌}, specs.List.list_all}
use Rattle.network.{specs.Groups.group_is_drained, proofs.MakeSteps.all_merged}
use Rattle.network.proofs.group.Group.drained.Goals as goal

pub returns-clause-done : goal.returns-clause-done
returns-clause-done g c t =
    let drained =
    ap group_is_drained (sym c.self.view_is)
    ∙ (ap (list_all _) (sym c.deref.ensures.value)
    ∙ (sym c.all_drained.ensures ∙ t)) in
    all_merged g.row.WAYS c.args.self.now drained
