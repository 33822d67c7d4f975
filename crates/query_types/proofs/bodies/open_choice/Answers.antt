use Rattle.std.proofs.Common.{refl}
use Rattle.query_types.proofs.bodies.open_choice.Goals as goal

pub returns-clause-given : goal.returns-clause-given
returns-clause-given c = rw (c.in_ok-new.ensures, c.in_ok-choice.ensures, c.in_ok-condition.ensures.given) refl
