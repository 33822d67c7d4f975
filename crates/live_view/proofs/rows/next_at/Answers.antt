-- The first word of the key of the entry is that of the keys that are left.
use Rattle.std.proofs.{Common.{◌≤◌, ◌∷◌, arith, length, subst, sym}, lemmas.List.drop_all}
use Rattle.live_view.specs.Seen.{AreLeft}
use Rattle.live_view.proofs.RowFacts.{begins_there, none_is}
use Rattle.live_view.proofs.rows.next_at.Goals as goal

pub returns-then-at-len-clause-least : goal.returns-then-at-len-clause-least
returns-then-at-len-clause-least c store keys left word rest less =
    let past : length c.args.entries.now ≤ c.args.at = omega (arith, c.if-at-len.true, c.len.ensures) in
    sym (none_is store keys (word ∷ rest) (subst (AreLeft store keys) (drop_all c.args.at c.args.entries.now past) left))

pub returns-in-Some-clause-least : goal.returns-in-Some-clause-least
returns-in-Some-clause-least c store keys left =
    begins_there store keys c.args.entries.now c.args.at c.in-Some.word.now c.key.result.now c.key.ensures (sym c.in-Some.ensures.value) left
