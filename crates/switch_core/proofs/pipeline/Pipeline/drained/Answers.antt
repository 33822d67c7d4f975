use Rattle.std.{proofs.Common.{◌≡◌, true, sym, ap, ◌∙◌, subst}, specs.List.list_all}
use Rattle.switch_core.{specs.PlanLanes.lane_is_drained, proofs.LaneTables.all_done}
use Rattle.switch_core.proofs.pipeline.Pipeline.drained.Goals as goal

pub returns-clause-done : goal.returns-clause-done
returns-clause-done g c t machines stand =
    let seen : c.deref.result.now ≡ c.args.self.now.lanes = c.deref.ensures.value ∙ ap (λ v. v.lanes) c.self.view_is in
    let drained : list_all lane_is_drained c.args.self.now.lanes ≡ true = subst (λ ls. list_all lane_is_drained ls ≡ true) seen
    (sym c.all_drained.ensures ∙ t) in
    all_done 0 c.args.self.now.lanes machines drained stand
