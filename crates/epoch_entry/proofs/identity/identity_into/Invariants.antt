use Rattle.std.proofs.Common.{◌≡◌, ℕ, ◌<◌, ◌≤◌}
use Rattle.coeff_algebra.specs.Maps.{stored_entry}
use Rattle.epoch_entry.specs.Identity.{unit_at}
use Rattle.epoch_entry.proofs.identity.identity_into.Given as goal

abbrev pub invariant-loop-row : goal.invariant-loop-row
invariant-loop-row g l = let c = g.C.Coeff in record {
  entries : (i j : ℕ) → i < l.row → j ≤ l.n → stored_entry c.WORDS l.n l.map i j ≡ c.words (unit_at c.elements i j);
  zeros : (i j : ℕ) → l.row ≤ i → i < l.n → j ≤ l.n → stored_entry c.WORDS l.n l.map i j ≡ c.words c.elements.zero;
}
