-- A refusal by a step is the text's first fault.
use Rattle.std.proofs.lemmas.Result.{err_from_is_err_and}
use Rattle.accepted_query.proofs.Refusals.{unread, untyped, unstaged}
use Rattle.accepted_query.proofs.steps.accept.Goals as goal

pub returns-in_err-query-clause-err : goal.returns-in_err-query-clause-err
returns-in_err-query-clause-err c =
    let p = err_from_is_err_and c.from_residual.result c.from_residual.ensures.1 in
    rw (p.1, p.2) (unread c.args.text.now c.in_err-query.field-0.0 c.in_err-query.ensures.given)

pub returns-in_err-typed-clause-err : goal.returns-in_err-typed-clause-err
returns-in_err-typed-clause-err c =
    let p = err_from_is_err_and c.from_residual-in_err-typed.result c.from_residual-in_err-typed.ensures.1 in
    rw (p.1, p.2) (untyped c.args.text.now c.in_err-typed.field-0.0 c.in_ok-query.ensures.given c.in_err-typed.ensures.given)

pub returns-in_err-plan-clause-err : goal.returns-in_err-plan-clause-err
returns-in_err-plan-clause-err c =
    let p = err_from_is_err_and c.from_residual-in_err-plan.result c.from_residual-in_err-plan.ensures.1 in
    rw (p.1, p.2) (unstaged c.args.text.now c.in_err-plan.field-0.0 c.in_ok-query.ensures.given
    c.in_ok-typed.ensures.given c.in_err-plan.ensures.refused)
