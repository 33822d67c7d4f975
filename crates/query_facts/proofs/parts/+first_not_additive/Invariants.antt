use Rattle.std.proofs.Common.{length}
use Rattle.query_facts.proofs.parts.+first_not_additive.Given as goal

abbrev pub decreases-first_not_additive : goal.decreases-first_not_additive
decreases-first_not_additive l = length l.places.now
