-- The rows before this one are those of a final, and the others are those of the store.
use Rattle.std.proofs.Common.{◌≡◌, suc, ◌+◌, ◌∙◌, List, Some, set, sym, ap, subst, arith, slice_get}
use Rattle.epoch_model.specs.declared.tables.Row.{Row}
use Rattle.backing_store.proofs.Showing.{here_stored, one_shown, row_at, shown_to}
use Rattle.final_queries.specs.Grouped.{plain_of}
use Rattle.final_queries.proofs.grouped.plain_rows.Goals as goal

pub loop-at-preserved : goal.loop-at-preserved
loop-at-preserved c =
    let stored = c.args.stored in
    let at = c.loop-at.at in
    let found = row_at stored at (omega (arith, c.loop-at-test.true, c.loop-at.auto.at-end, c.len-at-end.ensures)) in
    let row = found.0 in
    let here = subst (λ (rows : List Row). slice_get rows at ≡ Some row) (sym c.loop-at.invariant)
    (here_stored plain_of stored at row found.1) in
    let next : at + 1 ≡ suc at = omega arith in
    c.set_plain.ensures row here ∙ (ap (λ (rows : List Row). set rows at (plain_of row)) c.loop-at.invariant
    ∙ (one_shown plain_of stored at row found.1 ∙ ap (shown_to plain_of stored) (sym next)))
