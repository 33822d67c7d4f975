-- The columns of the right are asked in turn whether they clash, and the first that does ends the search.
use Rattle.std.proofs.Common.{sym, ◌∙◌}
use Rattle.query_types.proofs.AnySteps.{any_found, any_goes_on, any_ends}
use Rattle.query_types.proofs.columns.columns_clash.Goals as goal

pub returns-then-column_clashes : goal.returns-then-column_clashes
returns-then-column_clashes c =
    any_found _ c.args.right.now c.loop-column.column-index c.loop-column.invariant _ c.loop-column-test.true
    (sym c.column_clashes.ensures ∙ c.if-column_clashes.true)

pub loop-column-preserved : goal.loop-column-preserved
loop-column-preserved c =
    any_goes_on _ c.args.right.now c.loop-column.column-index c.loop-column.invariant _ c.loop-column-test.true
    (sym c.column_clashes.ensures ∙ c.if-column_clashes.false)

pub returns : goal.returns
returns c = any_ends _ c.args.right.now c.loop-column.column-index c.loop-column.invariant c.loop-column-test.false
