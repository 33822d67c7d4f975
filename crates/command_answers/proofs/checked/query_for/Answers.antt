-- a query is refused for its text's faults, or else for the command's own
use Rattle.marple_base.specs.declared.inputs.Which.TheVariants.{Query}
use Rattle.std.proofs.Common.{sym, ◌∙◌}
use Rattle.command_answers.{specs.OwnChecks.own_fault, proofs.Checking.{own_refused, text_ends}}
use Rattle.trace_drive.proofs.Breaking.{err_is}
use Rattle.command_answers.proofs.checked.query_for.Goals as goal

pub returns-in_err-query-clause-err : goal.returns-in_err-query-clause-err
returns-in_err-query-clause-err g c =
    let before = g.I.Inputs.input c.args.inputs.now Query in
    let after = g.I.Inputs.input c.read_query.new.inputs Query in
    err_is _ _ _ c.from_residual.ensures.1
    (text_ends (own_fault c.args.check) before after c.in_err-query.field-0.0 c.in_err-query.ensures.err)

pub returns-in-Some-clause-err : goal.returns-in-Some-clause-err
returns-in-Some-clause-err g c =
    own_refused (own_fault c.args.check) _ _ _ c.in_ok-query.ensures.ok (sym c.own_fault.ensures ∙ c.in-Some.is)

pub returns-in-None-clause-tells : goal.returns-in-None-clause-tells
returns-in-None-clause-tells g c =
    let some = c.in_ok-query.ensures.some_text in
    c.accepted_tell_switches.ensures some.0 c.in_ok-query.query.typed some.1
