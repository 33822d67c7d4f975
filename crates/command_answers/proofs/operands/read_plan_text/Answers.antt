-- What was read of a plan's text, to one byte more than the limit, is answered as the text is.
use Rattle.marple_base.specs.declared.inputs.Which.TheVariants.{Query}
use Rattle.trace_drive.proofs.Breaking.{err_is}
use Rattle.command_answers.proofs.PlanTexts.{plan_is_read, plan_ends}
use Rattle.command_answers.proofs.operands.read_plan_text.Goals as goal

pub returns-clause-ok : goal.returns-clause-ok
returns-clause-ok g c = plan_is_read _ _ _ _ c.in-Ok.ensures.text.bytes c.as_slice.ensures c.in_ok-loaded.ensures.answer

pub returns-in_err-loaded-clause-err : goal.returns-in_err-loaded-clause-err
returns-in_err-loaded-clause-err g c =
    let before = g.I.Inputs.input c.args.inputs.now Query in
    let after = g.I.Inputs.input c.read_input.new.inputs Query in
    err_is _ _ _ c.from_residual.ensures.1
    (plan_ends before after _ _ c.in_err-loaded.field-0.0 c.in-Ok.ensures.text.bytes c.as_slice.ensures c.in_err-loaded.ensures.answer)
