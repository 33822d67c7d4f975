use Rattle.std.proofs.Common.{◌≡◌, ℕ, ◌+◌, ◌*◌, ◌<◌, slice_index}
use Rattle.coeff_algebra.specs.Maps.{table_of, map_apply}
use Rattle.coeff_algebra.proofs.map.apply_into.Given as goal

abbrev pub invariant-rows : goal.invariant-rows
invariant-rows g l = let c = g.C.Coeff in record {
  values : (i : ℕ) → i < l.row → slice_index l.scratch i ≡ c.elements.to_word
      (map_apply c.elements l.n (table_of c.from_words c.WORDS l.n l.map) (λ j. c.elements.embed (slice_index l.state j)) i);
  steps : l.steps ≡ l.initial.steps + l.row * l.n;
}
