-- The state after each word is that of the fold over the words so far, and the last rounds make the hash of it.
use Rattle.std.proofs.{Common.{◌∙◌, ap, fold, get_or, refl, sym}, lemmas.List.{take_all, Sums.fold_more}}
use Rattle.backing_store.specs.SipHash.{start, with_word}
use Rattle.backing_store.proofs.sip.sip_hash.Goals as goal

pub words-preserved : goal.words-preserved
words-preserved c =
    let words = c.args.words.now in
    c.write.ensures ∙ (ap (λ s. with_word s (get_or words c.words.word-index 0)) c.words.invariant
    ∙ sym (fold_more with_word start words c.words.word-index 0 c.words-test.true))

pub returns : goal.returns
returns c =
    let all = take_all c.words.word-index c.args.words.now c.words-test.false in
    let state = c.words.invariant ∙ ap (fold with_word start) all in
    simp (c.round-3.ensures, c.round-2.ensures, c.round.ensures, state) refl
