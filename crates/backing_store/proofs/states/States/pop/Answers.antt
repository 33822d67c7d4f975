-- Without the last row's words and its key's number, what stays is all rows but the last.
use Rattle.std.proofs.Common.{◌≡◌, ◌-◌, ◌≤◌, length, ap, arith}
use Rattle.backing_store.proofs.StateFacts.{length-states_in, states_front}
use Rattle.backing_store.proofs.states.States.pop.Goals as goal

pub returns : goal.returns
returns c =
    let a = c.self.inside in
    let few : c.len-rows.result - 1 ≤ length a.of.items = omega (arith, c.len-rows.ensures, a.of.ok.0) in
    let same : length (c.args.self.now.rows) - 1 ≡ c.len-rows.result - 1 =
    omega (
      arith,
      c.len-rows.ensures,
      a.of.ok.0,
      length-states_in a.width a.of.items a.words.items,
      ap (λ l. length l.rows)
          c.self.view_is,
    ) in
    rw (same, c.truncate.ensures.items, c.truncate-2.ensures.items, ← c.self.view_is)
    (ap (λ rows. record { width = a.width; rows = rows }) (states_front (c.len-rows.result - 1) a.width a.of.items a.words.items few))
