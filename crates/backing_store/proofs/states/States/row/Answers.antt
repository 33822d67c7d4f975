-- The words kept at a row's place are the row's, and the place is within them.
use Rattle.std.proofs.Common.{◌+◌, ◌*◌, ◌≤◌, ◌∙◌, Some, length, sym, ap, subst}
use Rattle.backing_store.{specs.Prints.row_at, proofs.{KeyFacts.row_within, StateFacts.{state_got, state_within}}}
use Rattle.backing_store.proofs.states.States.row.Goals as goal

pub row-requires : goal.row-requires
row-requires c =
    let a = c.self.inside in
    subst (λ ws. c.args.at * a.width + a.width ≤ length ws) (sym c.as_slice.ensures.value)
    (row_within c.args.at (length a.of.items) a.width a.words.items
    (state_within a.width a.of.items a.words.items c.self.view_is c.requires) c.self.invariant)

pub returns : goal.returns
returns c =
    let a = c.self.inside in
    let low = state_within a.width a.of.items a.words.items c.self.view_is c.requires in
    rw (← c.self.view_is) (state_got a.width a.of.items a.words.items c.args.at low
    ∙ ap Some (sym (c.row.ensures ∙ ap (λ ws. row_at a.width ws c.args.at) c.as_slice.ensures.value)))
