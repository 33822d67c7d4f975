use Rattle.std.proofs.Common.{refl}
use Rattle.query_types.proofs.bodies.enclose.Goals as goal

pub returns : goal.returns
returns c = rw (c.in_ok-whole.ensures, c.or.ensures, c.find_state.ensures) refl
