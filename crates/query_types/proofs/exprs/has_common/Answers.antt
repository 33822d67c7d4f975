-- The names are asked in turn whether they are among the others, and the first that is ends the search.
use Rattle.std.proofs.Common.{sym, ◌∙◌}
use Rattle.query_types.proofs.AnySteps.{any_found, any_goes_on, any_ends}
use Rattle.query_types.proofs.exprs.has_common.Goals as goal

pub returns-then-has_name : goal.returns-then-has_name
returns-then-has_name c =
    any_found _ c.args.names.now c.loop-name.name-index c.loop-name.invariant _ c.loop-name-test.true
    (sym c.has_name.ensures ∙ c.if-has_name.true)

pub loop-name-preserved : goal.loop-name-preserved
loop-name-preserved c =
    any_goes_on _ c.args.names.now c.loop-name.name-index c.loop-name.invariant _ c.loop-name-test.true
    (sym c.has_name.ensures ∙ c.if-has_name.false)

pub returns : goal.returns
returns c = any_ends _ c.args.names.now c.loop-name.name-index c.loop-name.invariant c.loop-name-test.false
