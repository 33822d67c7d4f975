use Rattle.std.proofs.Common.{◌≤◌, length, ap, ◌∙◌, subst}
use Rattle.switch_core.proofs.lane.Lane.piped.Goals as goal

pub returns : goal.returns
returns g c = record {
  number = c.piped.ensures.number ∙ ap (λ x. length x.pipe.records) c.self.view_is;
  bound = subst (λ x. c.piped.result ≤ x.pipe.places) c.self.view_is c.piped.ensures.bound;
}
