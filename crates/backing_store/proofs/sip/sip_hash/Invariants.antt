use Rattle.std.proofs.Common.{◌≡◌, fold, take}
use Rattle.backing_store.specs.SipHash.{start, with_word}
use Rattle.backing_store.proofs.sip.sip_hash.Given as goal

-- the state after the words so far
abbrev pub invariant-words : goal.invariant-words
invariant-words l = l.sip ≡ fold with_word start (take l.word-index l.words)
