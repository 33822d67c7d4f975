-- Keys that differ in their fingerprints differ, and keys of one word with the same fingerprint don't.
use Rattle.std.proofs.{Common.{◌≡◌, [], ◌∷◌, ◌*◌, ap, drop, length, length-drop, sym, true, ◌∙◌, arith}, lemmas.List.length-take-le}
use Rattle.epoch_model.{specs.Keys.{Key, key_eq}, proofs.KeyLists.{by_test, key_eq-refl, key_eq-true}}
use Rattle.backing_store.specs.Prints.{fingerprint, row_at}
use Rattle.backing_store.proofs.chains.is_at.Goals as goal

-- keys of one word are told by their fingerprints
told_by_prints : (a b : Key) → length a ≡ 1 → length b ≡ 1 → fingerprint a ≡ fingerprint b → key_eq a b ≡ true
unfolding fingerprint
told_by_prints [] b one _ _ = absurd (omega (arith, one))
told_by_prints (a ∷ _ ∷ rest) b one _ _ = absurd (omega (arith, one))
told_by_prints (a ∷ []) [] _ one _ = absurd (omega (arith, one))
told_by_prints (a ∷ []) (b ∷ _ ∷ rest) _ one _ = absurd (omega (arith, one))
told_by_prints (a ∷ []) (b ∷ []) _ _ same = rw same (key_eq-refl (b ∷ []))

pub returns-then-link-print : goal.returns-then-link-print
returns-then-link-print c =
    let row = row_at c.args.width c.args.words.now c.args.at in
    let key = c.args.key.now in
    by_test (key_eq row key)
    (λ same. absurd (c.if-link-print.true (c.requires.link ∙ (ap fingerprint (key_eq-true row key same) ∙ sym c.requires.print))))
    (λ differ. sym differ)

pub returns-then-key-eq1 : goal.returns-then-key-eq1
returns-then-key-eq1 c =
    let row = row_at c.args.width c.args.words.now c.args.at in
    let long = length-take-le c.args.width (drop (c.args.at * c.args.width) c.args.words.now)
    (omega (arith, length-drop (c.args.at * c.args.width) c.args.words.now, c.requires.row)) in
    sym (told_by_prints row c.args.key.now (long ∙ c.if-width-eq1.true) c.if-key-eq1.true
    (sym c.requires.link ∙ (c.if-link-print.false ∙ c.requires.print)))
