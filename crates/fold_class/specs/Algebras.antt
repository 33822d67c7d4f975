-- The elements of the two algebras.
use Rattle.coeff_algebra.specs.{declared.{wrapping.Wrapping64.Wrapping64, max_plus.MaxPlus64.MaxPlus64}, Elements.Elements}
use Rattle.coeff_algebra.specs.{WrappingModel.wrapping_elements, MaxPlusModel.max_plus_elements}

abbrev pub sums : Elements Wrapping64
sums = wrapping_elements

abbrev pub maxima : Elements MaxPlus64
maxima = max_plus_elements
