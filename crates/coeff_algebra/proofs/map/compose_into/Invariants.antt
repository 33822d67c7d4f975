use Rattle.std.proofs.Common.{◌≡◌, ℕ, ◌+◌, ◌*◌, ◌<◌, ◌≤◌}
use Rattle.coeff_algebra.specs.Maps.{table_of, stored_entry, map_compose}
use Rattle.coeff_algebra.proofs.map.compose_into.Given as goal

abbrev pub invariant-loop-row : goal.invariant-loop-row
invariant-loop-row g l = let c = g.C.Coeff in record {
  entries : (i j : ℕ) → i < l.row → j ≤ l.n → stored_entry c.WORDS l.n l.scratch i j ≡ c.words
      (map_compose c.elements l.n (table_of c.from_words c.WORDS l.n l.later) (table_of c.from_words c.WORDS l.n l.earlier) i j);
  steps : l.steps ≡ l.initial.steps + l.row * ((l.n + 1) * l.n);
}
