-- An upkeep of a switch's front at one groupby.
use Rattle.std.{proofs.Common.{◌+◌, ◌≤◌, [], ◌∷◌, subst, subst₂, lit<}, specs.Prelude.slice_get}
use Rattle.switch_core.proofs.LaneFacts.{either_way, on_err, on_ok}
use Rattle.network.specs.{Costs.front_upkeep_cost, Events.{GroupBreaksOff, GroupMakesAll, IsLeft, upkeep_in}, Networks.IsNetwork}
use Rattle.network.specs.Running.{FrontsStay}
use Rattle.network.proofs.{Calls.{lane_breaks, lane_runs, lane_stays, upkeep_packets}, MakeSteps.others_stay}
use Rattle.network.proofs.OneLane.{view_of, after, lane_found, lane_switch, lane_shares, front_was, front_now, upkeep_breaks, upkeep_runs}
use Rattle.network.proofs.Runs.{runs_is}
use Rattle.network.proofs.network.Network.keep_lane.Goals as goal

pub keep_up-requires : goal.keep_up-requires
keep_up-requires g c =
    let l = lane_found c.self.invariant.0 c.self.view_is c.requires.lane c.index_mut-group.ensures.value in
    (lit< tt, (lane_switch l c.requires.switch, lane_shares l))

pub invariant_of-self : goal.invariant_of-self
invariant_of-self g c =
    let l = lane_found c.self.invariant.0 c.self.view_is c.requires.lane c.index_mut-group.ensures.value in
    let ways = g.row.WAYS in
    let at = c.args.at in
    let view = view_of c.self.inside in
    let group = c.index_mut-group.result.now in
    let new = c.keep_up.new.self in
    let events = upkeep_in c.args.upkeep (slice_get group.fronts at) in
    let none = upkeep_packets c.args.upkeep (slice_get group.fronts at) in (
      either_way (GroupMakesAll ways at events group new) (GroupBreaksOff ways at events group new)
          (IsNetwork ways (after l new)) c.keep_up.result c.keep_up.ensures.makes c.keep_up.ensures.breaks_off
          (λ made. runs_is _ _ _ (after l new) (lane_runs ways at c.args.lane events view group new none l.here made) l.network)
          (λ broke. let first = lane_breaks ways at c.args.lane events view group new none l.here broke in
          runs_is _ first.0 _ (after l new) first.2 l.network),
      c.self.invariant.1,
    )

pub returns-clause-runs : goal.returns-clause-runs
returns-clause-runs g c =
    let l = lane_found c.self.invariant.0 c.self.view_is c.requires.lane c.index_mut-group.ensures.value in
    on_ok _ _ c.keep_up.result (upkeep_runs l c.keep_up.new.self c.args.at c.args.upkeep) c.keep_up.ensures.makes

pub returns-clause-breaks_off : goal.returns-clause-breaks_off
returns-clause-breaks_off g c =
    let l = lane_found c.self.invariant.0 c.self.view_is c.requires.lane c.index_mut-group.ensures.value in
    on_err _ _ c.keep_up.result (upkeep_breaks l c.keep_up.new.self c.args.at c.args.upkeep) c.keep_up.ensures.breaks_off

pub returns-clause-left : goal.returns-clause-left
returns-clause-left g c =
    let l = lane_found c.self.invariant.0 c.self.view_is c.requires.lane c.index_mut-group.ensures.value in
    let at = c.args.at in
    let new = c.keep_up.new.self in
    on_ok _
    _ c.keep_up.result
    (subst₂ (IsLeft c.args.upkeep) (front_was l at) (front_now l new at)) c.keep_up.ensures.left

pub returns-clause-others : goal.returns-clause-others
returns-clause-others g c =
    let l = lane_found c.self.invariant.0 c.self.view_is c.requires.lane c.index_mut-group.ensures.value in
    let ways = g.row.WAYS in
    let at = c.args.at in
    let group = c.index_mut-group.result.now in
    let new = c.keep_up.new.self in
    let events = upkeep_in c.args.upkeep (slice_get group.fronts at) in
    on_ok _ _ c.keep_up.result
    (λ made. subst (λ v. FrontsStay c.args.lane at v (after l new)) c.self.view_is
    (lane_stays at c.args.lane (view_of c.self.inside) group new l.here
    (others_stay ways at (λ n. events) (group ∷ []) (new ∷ []) (made, tt)).0))
    c.keep_up.ensures.makes

pub returns-clause-cost : goal.returns-clause-cost
returns-clause-cost g c = subst (λ o. c.keep_up.new.steps ≤ c.args.steps.now + front_upkeep_cost c.args.upkeep o)
    (front_was (lane_found c.self.invariant.0 c.self.view_is c.requires.lane c.index_mut-group.ensures.value) c.args.at)
    c.keep_up.ensures.cost
