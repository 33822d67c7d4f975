-- What was read of a query's text, to one byte more than the limit, is answered as the text is.
use Rattle.marple_base.specs.declared.inputs.Which.TheVariants.{Query}
use Rattle.std.proofs.Common.{◌≡◌, Ok}
use Rattle.trace_drive.proofs.Breaking.{err_is}
use Rattle.command_answers.proofs.Limits.{query_ends, told_answer}
use Rattle.command_answers.proofs.operands.read_query.Goals as goal

pub returns-clause-ok : goal.returns-clause-ok
returns-clause-ok g c =
    told_answer (λ found. found ≡ Ok c.in_ok-query.query.typed) _ _ _ c.in-Ok.ensures.text.bytes c.as_slice.ensures
    c.in_ok-query.ensures.typed

pub returns-in_err-query-clause-err : goal.returns-in_err-query-clause-err
returns-in_err-query-clause-err g c =
    let before = g.I.Inputs.input c.args.inputs.now Query in
    let after = g.I.Inputs.input c.read_input.new.inputs Query in
    err_is _ _ _ c.from_residual.ensures.1 (query_ends before after _ _ c.in_err-query.field-0.0 c.in-Ok.ensures.text.bytes
    c.as_slice.ensures c.in_err-query.ensures.err)
