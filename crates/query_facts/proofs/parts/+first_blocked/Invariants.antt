use Rattle.std.proofs.Common.{length}
use Rattle.query_facts.proofs.parts.+first_blocked.Given as goal

abbrev pub decreases-first_blocked : goal.decreases-first_blocked
decreases-first_blocked l = length l.finals.now
