use Rattle.std.{proofs.Common.{ℕ, List, ap, ◌∙◌, subst}, specs.List.list_all}
use Rattle.network.specs.{Events.{AreAllMerged, AtGroup}, Groups.{GroupView, group_is_drained}, Networks.NetworkView}
use Rattle.network.proofs.network.Network.drained.Goals as goal

pub returns-clause-value : goal.returns-clause-value
returns-clause-value g c =
    c.all_drained.ensures.value ∙ (ap (list_all group_is_drained) c.deref.ensures.value
    ∙ ap (λ (v : NetworkView). list_all group_is_drained v.groups) c.self.view_is)

pub returns-clause-done : goal.returns-clause-done
returns-clause-done g c t =
    let merged : List GroupView → Type 0 = λ groups. (lane : ℕ) → AtGroup (AreAllMerged g.row.WAYS) groups lane in
    subst (λ (v : NetworkView). merged v.groups) c.self.view_is (subst merged c.deref.ensures.value (c.all_drained.ensures.done t))
