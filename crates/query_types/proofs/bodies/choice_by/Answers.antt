use Rattle.std.proofs.Common.{refl}
use Rattle.query_types.proofs.bodies.choice_by.Goals as goal

pub returns : goal.returns
returns c = rw (c.in_ok-failing.ensures, c.in_ok-holding.ensures, c.in_ok-opposite.ensures, c.in_ok-copy.ensures) refl
