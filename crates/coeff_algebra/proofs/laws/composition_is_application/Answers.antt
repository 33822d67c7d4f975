use Rattle.coeff_algebra.proofs.MapLemmas.{apply_compose}
use Rattle.coeff_algebra.proofs.laws.composition_is_application.Goals as goal

pub returns : goal.returns
returns g c = apply_compose g.met.C.Coeff.algebra
