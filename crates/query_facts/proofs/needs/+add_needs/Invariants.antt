use Rattle.std.proofs.Common.{length}
use Rattle.query_facts.proofs.needs.+add_needs.Given as goal

abbrev pub decreases-add_needs : goal.decreases-add_needs
decreases-add_needs l = length l.finals.now
