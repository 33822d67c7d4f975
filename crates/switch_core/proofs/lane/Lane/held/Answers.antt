use Rattle.std.proofs.Common.{◌≤◌, ◌*◌, length, ap, ◌∙◌, subst}
use Rattle.switch_core.specs.Closing.{held_in}
use Rattle.switch_core.proofs.lane.Lane.held.Goals as goal

pub returns : goal.returns
returns g c = record {
  number = c.held.ensures.number ∙ ap (λ x. held_in x.cache) c.self.view_is;
  bound = subst (λ x. c.held.result ≤ length x.cache.lists * g.row.WAYS) c.self.view_is c.held.ensures.bound;
}
