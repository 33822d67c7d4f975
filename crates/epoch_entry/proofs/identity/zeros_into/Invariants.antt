use Rattle.std.proofs.Common.{◌≡◌, ℕ, ◌<◌}
use Rattle.coeff_algebra.specs.Maps.{stored_at}
use Rattle.epoch_entry.proofs.identity.zeros_into.Given as goal

abbrev pub invariant-loop-place : goal.invariant-loop-place
invariant-loop-place g l = let c = g.C.Coeff in (p : ℕ) → p < l.place → stored_at c.WORDS l.map p ≡ c.words c.elements.zero
