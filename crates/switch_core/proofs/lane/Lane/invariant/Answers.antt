use Rattle.std.proofs.Common.{subst}
use Rattle.switch_core.specs.FrontParts.{FitsStore, IsFront}
use Rattle.switch_core.proofs.lane.Lane.invariant.Goals as goal

pub returns : goal.returns
returns g c = record {
  front = subst (λ x. IsFront g.row.WAYS (g.K.EpochKind.sizes x.kind) x.cache x.pipe) c.self.view_is c.invariant.ensures;
  store = subst (λ x. FitsStore (g.K.EpochKind.sizes x.kind) x.cache x.store) c.self.view_is c.self.invariant;
}
