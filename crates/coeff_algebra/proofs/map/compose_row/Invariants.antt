use Rattle.std.proofs.Common.{◌≡◌, ℕ, ◌+◌, ◌*◌, ◌<◌}
use Rattle.coeff_algebra.specs.Maps.{table_of, stored_at, stored_entry, map_compose}
use Rattle.coeff_algebra.proofs.map.compose_row.Given as goal

abbrev pub invariant-loop-column : goal.invariant-loop-column
invariant-loop-column g l = let c = g.C.Coeff in record {
  entries : (j : ℕ) → j < l.column → stored_entry c.WORDS l.n l.scratch l.row j ≡ c.words
      (map_compose c.elements l.n (table_of c.from_words c.WORDS l.n l.later) (table_of c.from_words c.WORDS l.n l.earlier) l.row j);
  before : (p : ℕ) → p < l.row * (l.n + 1) → stored_at c.WORDS l.scratch p ≡ stored_at c.WORDS l.initial.scratch p;
  steps : l.steps ≡ l.initial.steps + l.column * l.n;
}
