-- One more number of a key and the words of one more row make the rows with that row at the end.
use Rattle.std.proofs.Common.{◌∙◌, sym, ap}
use Rattle.backing_store.proofs.StateFacts.{states_more}
use Rattle.backing_store.proofs.states.States.push.Goals as goal

pub returns-clause-ok : goal.returns-clause-ok
returns-clause-ok c =
    let a = c.self.inside in
    rw (
      c.push_reserved.ensures.items,
      c.reserve.ensures.items,
      c.push_few.ensures.items,
      c.in_ok-reserve-2.ensures.items,
      ← c.self.view_is,
    )
    (ap (λ rows. record { width = a.width; rows = rows })
    (states_more a.width a.of.items a.words.items c.args.of c.args.words.now c.self.invariant
    (c.requires ∙ sym (ap (λ l. l.width) c.self.view_is))))
