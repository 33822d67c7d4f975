use Rattle.std.proofs.{Common.{◌≡◌, length, sym, ap, ◌∙◌}, lemmas.Result.on_ok_weaker}
use Rattle.backing_store.{specs.KeyList.KeyList, proofs.KeyFacts.rows_more}
use Rattle.backing_store.proofs.keys.Keys.add.Goals as goal

pub returns-clause-ok : goal.returns-clause-ok
returns-clause-ok c =
    let a = c.self.inside in
    let long : length c.args.key.now ≡ a.width = c.requires.width ∙ sym (ap (λ (l : KeyList). l.width) c.self.view_is) in
    on_ok_weaker c.add_key.result
    (λ done. rw (done.0, done.1, ← c.self.view_is)
    (ap (λ keys. record { width = a.width; keys = keys })
    (rows_more a.width (length a.links.items) a.words.items c.args.key.now c.self.invariant.flat long)))
    c.add_key.ensures.ok
