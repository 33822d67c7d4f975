use Rattle.plan_file.{specs.{Lexis.{number, function_named}, Operations.operand}, proofs.OpFacts.two_no_left}
use Rattle.plan_file.proofs.operations.two_op.Goals as goal

pub returns-in_err-left : goal.returns-in_err-left
returns-in_err-left c =
    let none = two_no_left c.args.fields.now c.args.ops.now (number c.args.stage.now) (function_named c.args.function.now)
    (operand c.args.a.now) (operand c.args.b.now) c.in_err-left.ensures in
    rw c.from_residual-in_err-left.ensures none
