use Rattle.std.proofs.Common.{length, ap, arith}
use Rattle.backing_store.proofs.StateFacts.{length-states_in}
use Rattle.backing_store.proofs.states.States.len.Goals as goal

pub returns : goal.returns
returns c =
    let a = c.self.inside in
    omega (arith, c.len.ensures, a.of.ok.0, length-states_in a.width a.of.items a.words.items, ap (λ l. length l.rows) c.self.view_is)
