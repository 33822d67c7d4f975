use Rattle.std.proofs.Common.{◌≡◌, ◌+◌}
use Rattle.coeff_algebra.specs.Maps.{sum_below, table_of}
use Rattle.coeff_algebra.proofs.map.dot.Given as goal

abbrev pub invariant-loop-k : goal.invariant-loop-k
invariant-loop-k g l = record {
  value : l.sum ≡ sum_below g.C.Coeff.elements l.k (λ k. g.C.Coeff.elements.mul
      (table_of g.C.Coeff.from_words g.C.Coeff.WORDS l.n l.later l.row k)
      (table_of g.C.Coeff.from_words g.C.Coeff.WORDS l.n l.earlier k l.column));
  steps : l.steps ≡ l.initial.steps + l.k;
}
