use Rattle.std.proofs.Common.{length}
use Rattle.query_facts.proofs.parts.+first_needed.Given as goal

abbrev pub decreases-first_needed : goal.decreases-first_needed
decreases-first_needed l = length l.finals.now
