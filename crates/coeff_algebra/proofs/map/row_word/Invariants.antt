use Rattle.std.proofs.Common.{◌≡◌, ◌+◌, slice_index}
use Rattle.coeff_algebra.specs.Maps.{sum_below, table_of}
use Rattle.coeff_algebra.proofs.map.row_word.Given as goal

abbrev pub invariant-loop-j : goal.invariant-loop-j
invariant-loop-j g l = record {
  value : l.products ≡ sum_below g.C.Coeff.elements l.j (λ j. g.C.Coeff.elements.mul
      (table_of g.C.Coeff.from_words g.C.Coeff.WORDS l.n l.map l.row j) (g.C.Coeff.elements.embed (slice_index l.state j)));
  steps : l.steps ≡ l.initial.steps + l.j;
}
