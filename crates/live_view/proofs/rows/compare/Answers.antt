-- A smaller first word decides, and else the first of the entries that are left is of the first of the keys.
use Rattle.std.proofs.{Common.{◌∙◌, subst, sym, arith}, lemmas.List.drop_all}
use Rattle.epoch_model.specs.Keys.{key_cmp}
use Rattle.live_view.specs.Seen.{AreLeft}
use Rattle.live_view.proofs.RowFacts.{comes_before, first_there, none_is}
use Rattle.live_view.proofs.rows.compare.Goals as goal

pub returns-in-Some-clause-order : goal.returns-in-Some-clause-order
returns-in-Some-clause-order c store keys left =
    comes_before keys c.args.next.word c.in-Some.word.now c.args.key.now (c.requires.least store keys left)
    (sym c.in-Some.ensures.value) c.if-word-next.true

pub returns-in_default-clause-order : goal.returns-in_default-clause-order
unfolding key_cmp
returns-in_default-clause-order c store keys left =
    c.cmp.ensures ∙ first_there store keys c.args.entries.now c.args.next.at c.key.result.now c.args.key.now c.key.ensures left

pub returns-in_default-2-clause-order : goal.returns-in_default-2-clause-order
returns-in_default-2-clause-order c store keys left =
    none_is store keys c.args.key.now (subst (AreLeft store keys) (drop_all c.args.next.at c.args.entries.now (omega (arith, c.if-next-len.false, c.len.ensures))) left)
