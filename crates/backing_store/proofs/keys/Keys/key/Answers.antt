-- The row of the flat words at a place is the key there.
use Rattle.std.proofs.Common.{◌+◌, ◌*◌, ◌<◌, ◌≤◌, ◌∙◌, Some, length, sym, ap, subst, arith}
use Rattle.bucket_cache.proofs.FlatRows.{length-rows_of}
use Rattle.backing_store.{specs.Prints.row_at, proofs.KeyFacts.{got_row, row_within}}
use Rattle.backing_store.proofs.keys.Keys.key.Goals as goal
use Rattle.backing_store.proofs.keys.Keys.key.Goals.{After-self}

low : (c : After-self) → c.args.at < length c.self.inside.links.items
low c =
    let a = c.self.inside in
    omega (arith, c.requires, length-rows_of a.width (length a.links.items) a.words.items, ap (λ l. length l.keys) c.self.view_is)

pub row-requires : goal.row-requires
row-requires c =
    let a = c.self.inside in
    subst (λ ws. c.args.at * a.width + a.width ≤ length ws) (sym c.as_slice.ensures.value)
    (row_within c.args.at (length a.links.items) a.width a.words.items (low (goal.at.row-requires c).After-self) c.self.invariant.flat)

pub returns : goal.returns
returns c =
    let a = c.self.inside in
    rw (← c.self.view_is) (got_row a.width (length a.links.items) a.words.items c.args.at (low (goal.at.returns c).After-self)
    ∙ ap Some (sym (c.row.ensures ∙ ap (λ ws. row_at a.width ws c.args.at) c.as_slice.ensures.value)))
