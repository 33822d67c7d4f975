-- A home is one of the homes.
use Rattle.std.proofs.{Common.arith, lemmas.Nat.and_le_r}
use Rattle.backing_store.proofs.chains.home_of.Goals as goal

pub returns-clause-within : goal.returns-clause-within
returns-clause-within c some = omega (arith, and_le_r)
