use Rattle.std.proofs.Common.{◌∙◌, arith}
use Rattle.marple_base.specs.declared.field.Field.TheVariants.{Switch}
use Rattle.plan_file.proofs.OperandFacts.{none_more, not_among}
use Rattle.plan_file.proofs.operations.has_number.Goals as goal

pub loop-f-preserved : goal.loop-f-preserved
loop-f-preserved c = none_more c.args.fields.now c.args.n c.loop-f.f-index Switch c.loop-f-test.true c.loop-f.invariant
    (λ e. c.if-number-n.false (c.number.ensures.number ∙ e))

pub returns-clause-no : goal.returns-clause-no
returns-clause-no c _ = not_among c.args.fields.now c.args.n (λ k lt. c.loop-f.invariant k (omega (arith, lt, c.loop-f-test.false)))
