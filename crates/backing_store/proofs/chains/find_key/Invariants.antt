use Rattle.backing_store.proofs.SearchFacts.{IsFollowed}
use Rattle.backing_store.proofs.chains.find_key.Given as goal

-- no key that was passed is the one that is sought
abbrev pub invariant-loop-next : goal.invariant-loop-next
invariant-loop-next l = IsFollowed l.width l.words l.links l.homes l.key l.next

abbrev pub decreases-loop-next : goal.decreases-loop-next
decreases-loop-next l = l.next
