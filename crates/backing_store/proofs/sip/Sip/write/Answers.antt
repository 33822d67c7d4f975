use Rattle.backing_store.specs.SipHash.{with_word}
use Rattle.backing_store.proofs.sip.Sip.write.Goals as goal

pub returns : goal.returns
unfolding with_word
returns c = simp c.round.ensures
