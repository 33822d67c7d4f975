use Rattle.std.proofs.Common.{sym, ap, ◌∙◌, map}
use Rattle.final_queries.{specs.{Grouped.plain_of, Joining.reads}, proofs.GroupSteps.rows_grouped}
use Rattle.final_queries.proofs.grouped.grouped.Goals as goal

pub returns-clause-rows : goal.returns-clause-rows
returns-clause-rows g c =
    let f = c.args.f.now in
    c.plain_rows.ensures ∙ (ap (map plain_of) c.in_ok-stored.ensures
    ∙ rows_grouped c.held_rows_are_the_tables.ensures f c.args.keys.now c.args.args.now (reads c.args.rows.now) c.in_ok-store.store
    c.invariant.ensures
    (c.in_ok-store.ensures.holds f c.in_ok-code.ensures.meaning (sym c.as_slice-initial.ensures)))
