-- The groupby makes the merge, and the others stay.
use Rattle.std.proofs.Common.{◌≡◌, ◌+◌, ◌≤◌, sym, ap, ◌∙◌, subst, lit<}
use Rattle.epoch_model.specs.Machine.{Merge}
use Rattle.switch_core.proofs.{LaneFacts.{either_way, on_err, on_ok}, SideBySide.same_some}
use Rattle.network.specs.{Costs.group_merge_cost, Events.{GroupMakes, OthersStay, is_ready_at}, Networks.IsNetwork, Running.Merges}
use Rattle.network.proofs.OneLane.{after, lane_found, lane_switch, lane_shares, lane_is, lane_front, lane_now, lane_kept}
use Rattle.network.proofs.OneLane.{kept_network, kept_others, groups_made, network_made, others_made, event_made}
use Rattle.network.proofs.network.Network.merge.Goals as goal

pub merge-requires : goal.merge-requires
merge-requires g c =
    let l = lane_found c.self.invariant.0 c.self.view_is c.requires.lane c.index_mut-group.ensures.value in
    (lit< tt, (lane_switch l c.requires.switch, lane_shares l))

pub invariant_of-self : goal.invariant_of-self
invariant_of-self g c =
    let l = lane_found c.self.invariant.0 c.self.view_is c.requires.lane c.index_mut-group.ensures.value in
    let new = c.merge.new.self in (
      either_way (GroupMakes g.row.WAYS c.args.at Merge c.index_mut-group.result.now new) (new ≡ c.index_mut-group.result.now)
          (IsNetwork g.row.WAYS (after l new)) c.merge.result c.merge.ensures.makes c.merge.ensures.err
          (network_made l new c.args.at Merge) (kept_network l new),
      c.self.invariant.1,
    )

pub returns-clause-makes : goal.returns-clause-makes
returns-clause-makes g c =
    let l = lane_found c.self.invariant.0 c.self.view_is c.requires.lane c.index_mut-group.ensures.value in
    let new = c.merge.new.self in
    on_ok _
    _ c.merge.result
    (λ made. event_made l new (Merges c.args.at c.args.lane) (groups_made l new c.args.at Merge made)) c.merge.ensures.makes

pub returns-clause-others : goal.returns-clause-others
returns-clause-others g c =
    let l = lane_found c.self.invariant.0 c.self.view_is c.requires.lane c.index_mut-group.ensures.value in
    let new = c.merge.new.self in
    either_way (GroupMakes g.row.WAYS c.args.at Merge c.index_mut-group.result.now new) (new ≡ c.index_mut-group.result.now)
    (OthersStay c.args.at c.args.self.now.groups (after l new).groups) c.merge.result c.merge.ensures.makes c.merge.ensures.err
    (others_made l new c.args.at Merge) (kept_others l new c.args.at)

pub returns-clause-ready : goal.returns-clause-ready
returns-clause-ready g c =
    let l = lane_found c.self.invariant.0 c.self.view_is c.requires.lane c.index_mut-group.ensures.value in
    let new = c.merge.new.self in
    on_ok _ _
    c.merge.result (λ ready x e. ap (is_ready_at c.args.at) (same_some x new (sym e ∙ lane_now l new)) ∙ ready) c.merge.ensures.ready

pub returns-clause-empty : goal.returns-clause-empty
returns-clause-empty g c x e front f =
    let l = lane_found c.self.invariant.0 c.self.view_is c.requires.lane c.index_mut-group.ensures.value in
    c.merge.ensures.empty front (lane_front l c.args.at e f)

pub returns-clause-same : goal.returns-clause-same
returns-clause-same g c is =
    let l = lane_found c.self.invariant.0 c.self.view_is c.requires.lane c.index_mut-group.ensures.value in
    lane_kept l c.merge.new.self (c.merge.ensures.same is)

pub returns-clause-err : goal.returns-clause-err
returns-clause-err g c =
    let l = lane_found c.self.invariant.0 c.self.view_is c.requires.lane c.index_mut-group.ensures.value in
    on_err _ _ c.merge.result
    (lane_kept l c.merge.new.self) c.merge.ensures.err

pub returns-clause-cost : goal.returns-clause-cost
returns-clause-cost g c x e front f =
    let l = lane_found c.self.invariant.0 c.self.view_is c.requires.lane c.index_mut-group.ensures.value in
    c.merge.ensures.cost front (lane_front l c.args.at e f)

pub returns-clause-most : goal.returns-clause-most
returns-clause-most g c x e = subst (λ v. c.merge.new.steps ≤ c.args.steps.now + group_merge_cost c.args.at v)
    (lane_is (lane_found c.self.invariant.0 c.self.view_is c.requires.lane c.index_mut-group.ensures.value) e) c.merge.ensures.most
