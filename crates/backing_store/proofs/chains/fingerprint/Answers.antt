-- A key of one word is its own fingerprint, and every other key has the hash of its words.
use Rattle.std.proofs.Common.{◌≡◌, ◌≢◌, [], ◌∷◌, get_or, length, refl, ◌∙◌, arith}
use Rattle.epoch_model.specs.Keys.{Key}
use Rattle.backing_store.specs.{Prints.fingerprint, SipHash.sip_hash}
use Rattle.backing_store.proofs.chains.fingerprint.Goals as goal

one_word : (key : Key) → length key ≡ 1 → get_or key 0 0 ≡ fingerprint key
unfolding fingerprint
one_word [] long = absurd (omega (arith, long))
one_word (word ∷ []) long = refl
one_word (word ∷ more ∷ key) long = absurd (omega (arith, long))

many_words : (key : Key) → length key ≢ 1 → sip_hash key ≡ fingerprint key
unfolding fingerprint
many_words [] long = refl
many_words (word ∷ []) long = absurd (long refl)
many_words (word ∷ more ∷ key) long = refl

pub returns-then-key-eq1 : goal.returns-then-key-eq1
returns-then-key-eq1 c = one_word c.args.key.now c.if-key-eq1.true

pub returns : goal.returns
returns c = c.sip_hash.ensures ∙ many_words c.args.key.now c.if-key-eq1.false
