-- The groupby at a lane has as many fronts as the network has switches, so the front at a switch is there.
use Rattle.std.proofs.Common.{ap, ◌∙◌, lit<}
use Rattle.network.{specs.Events.is_ready_at, proofs.OneLane.{IsLane, view_of, lane_found, lane_switch, lane_is}}
use Rattle.network.proofs.network.Network.lane_ready.Goals as goal
use Rattle.network.proofs.network.Network.lane_ready.Goals.{After-index-group}

lane : (g : _) (c : After-index-group g)
    → IsLane g.row.WAYS (view_of c.self.inside) c.args.self.now c.args.lane c.index-group.result.now
lane g c = lane_found c.self.invariant.0 c.self.view_is c.requires.lane c.index-group.ensures

pub ready-requires : goal.ready-requires
ready-requires g c = (lit< tt, lane_switch (lane g c) c.requires.switch)

pub returns : goal.returns
returns g c _ e =
    c.ready.ensures ∙ ap (is_ready_at c.args.at) (lane_is (lane g (goal.at.returns g c).After-index-group) e)
