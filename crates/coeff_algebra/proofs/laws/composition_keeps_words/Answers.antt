use Rattle.coeff_algebra.proofs.MapLemmas.{compose_has}
use Rattle.coeff_algebra.proofs.laws.composition_keeps_words.Goals as goal

pub returns : goal.returns
returns g c = compose_has g.met.C.Coeff.algebra
