-- An upkeep of a switch's front, with the groupby's store.
use Rattle.std.proofs.Common.{lit<, ◌+◌, ◌≤◌, subst}
use Rattle.switch_core.{specs.FrontEvents.with_store, proofs.LaneFacts.{on_both, on_err, on_ok}}
use Rattle.network.{specs.Costs.group_upkeep_cost, proofs.CostSteps.upkeep_within}
use Rattle.network.proofs.MakeSteps.{left_by, left_here}
use Rattle.network.proofs.OneFront.{group_of, front_found, front_shares, front_was, front_now, group_breaks_off, group_makes}
use Rattle.network.proofs.group.Group.keep_up.Goals as goal

pub keep_up-requires : goal.keep_up-requires
keep_up-requires g c =
    let f = front_found c.self.view_is c.requires.switch c.index_mut-front.ensures.value in
    (lit< tt, (front_shares f c.requires.shares.0 c.requires.shares.1).fits)

pub returns-clause-makes : goal.returns-clause-makes
returns-clause-makes g c =
    let f = front_found c.self.view_is c.requires.switch c.index_mut-front.ensures.value in
    on_ok _ _ c.keep_up.result
    (λ made. rw (front_was f) (group_makes f g.row.WAYS _ (with_store c.keep_up.new.front c.keep_up.new.store) c.requires.shares made))
    c.keep_up.ensures.carries

pub returns-clause-breaks_off : goal.returns-clause-breaks_off
returns-clause-breaks_off g c =
    let f = front_found c.self.view_is c.requires.switch c.index_mut-front.ensures.value in
    on_err _ _ c.keep_up.result
    (λ broke. rw (front_was f) (group_breaks_off f g.row.WAYS _ (with_store c.keep_up.new.front c.keep_up.new.store) c.requires.shares
    broke)) c.keep_up.ensures.breaks_off

pub returns-clause-left : goal.returns-clause-left
returns-clause-left g c =
    let f = front_found c.self.view_is c.requires.switch c.index_mut-front.ensures.value in
    let view = group_of c.self.inside in
    let front = c.index_mut-front.result.now in
    let new = c.keep_up.new.front in
    let lane = with_store new c.keep_up.new.store in
    on_both _
    _
    _ c.keep_up.result
    (λ made kept. left_here c.args.upkeep _ _ _ _
    (front_was f) (front_now f new) (left_by g.row.WAYS c.args.upkeep front view.store lane made kept))
    c.keep_up.ensures.carries c.keep_up.ensures.left

pub returns-clause-cost : goal.returns-clause-cost
returns-clause-cost g c =
    let f = front_found c.self.view_is c.requires.switch c.index_mut-front.ensures.value in
    subst (λ v. c.keep_up.new.steps ≤ c.args.steps.now + group_upkeep_cost c.args.upkeep c.args.at v) c.self.view_is
    (upkeep_within c.args.upkeep c.args.at c.args.steps.now c.keep_up.new.steps (group_of c.self.inside) c.index_mut-front.result.now f.here
    c.keep_up.ensures.cost)
