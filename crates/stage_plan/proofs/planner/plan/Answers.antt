use Rattle.std.proofs.{Common.{◌∙◌, sym}, lemmas.Result.err_from_is_err_and}
use Rattle.stage_plan.proofs.{Faults.query_fault, Putting.refusal}
use Rattle.stage_plan.proofs.planner.plan.Goals as goal

pub returns-in_err-made-clause-refused : goal.returns-in_err-made-clause-refused
returns-in_err-made-clause-refused c =
    let p = err_from_is_err_and c.from_residual.result c.from_residual.ensures.1 in
    rw (p.1, p.2) (refusal c.args.q.now c.in_err-made.field-0.0 c.in_err-made.ensures.refused)

pub returns-clause-fits : goal.returns-clause-fits
returns-clause-fits c = sym (query_fault c.args.q.now) ∙ c.in_ok-made.ensures.made.fits
