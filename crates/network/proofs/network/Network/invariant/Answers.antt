use Rattle.std.proofs.Common.{subst}
use Rattle.network.specs.Networks.{IsNetwork}
use Rattle.network.proofs.network.Network.invariant.Goals as goal

pub returns : goal.returns
returns g c = subst (IsNetwork g.row.WAYS) c.self.view_is c.self.invariant.0
