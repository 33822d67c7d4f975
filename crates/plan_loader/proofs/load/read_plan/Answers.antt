-- A valid text is refused nowhere and says one plan, and any other is refused at its only bad place.
use Rattle.std.proofs.{Common.{ap, ◌∙◌}, lemmas.Result.err_from_is_err_and}
use Rattle.stage_plan.specs.Shape.{bound_of}
use Rattle.plan_file.proofs.{AnswerFacts.{nowhere, only_answer}, LineLaws.makes_one, TextLaws.says_one}
use Rattle.plan_loader.{specs.Meaning.text_shape, proofs.SoundMade.says_sound}
use Rattle.plan_loader.proofs.load.read_plan.Goals as goal

pub plan_of-requires : goal.plan_of-requires
plan_of-requires c = says_sound c.args.text.now c.in_ok-made.made c.in_ok-made.ensures

pub returns-clause-exact : goal.returns-clause-exact
returns-clause-exact c = nowhere c.args.text.now c.in_ok-made.made c.in_ok-made.ensures

pub returns-in_err-made-clause-exact : goal.returns-in_err-made-clause-exact
returns-in_err-made-clause-exact c =
    let p = err_from_is_err_and c.from_residual.result c.from_residual.ensures.1 in
    rw (p.1, p.2) (only_answer c.args.text.now c.in_err-made.field-0.0 c.in_err-made.ensures)

pub returns-clause-bound : goal.returns-clause-bound
returns-clause-bound c = λ made ways says. ap (bound_of ways) (c.in_ok-loaded.ensures.shape ∙ ap text_shape
    (says_one makes_one c.args.text.now c.in_ok-made.made made c.in_ok-made.ensures says))
