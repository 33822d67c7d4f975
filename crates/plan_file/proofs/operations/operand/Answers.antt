use Rattle.std.proofs.Common.{sym}
use Rattle.plan_file.proofs.OperandFacts.{known_bound, register_unknown}
use Rattle.plan_file.proofs.operations.operand.Goals as goal
use Rattle.plan_file.proofs.operations.operand.Goals.{else-n-lt65536-via-then-n-lt65536+else-is_known, else-n-lt65536-via-else-n-lt65536}

pub returns-else-n-lt65536 : goal.returns-else-n-lt65536
returns-else-n-lt65536 c = register_unknown c.args.fields.now c.args.ops.now c.args.token.now c.in-Some.n (sym c.in-Some.ensures)
    (elim c.else-n-lt65536.branch [
      | else-n-lt65536-via-then-n-lt65536+else-is_known w ↦ w.is_known.ensures.no w.if-is_known.false
      | else-n-lt65536-via-else-n-lt65536 w ↦ known_bound c.args.fields.now c.args.ops.now c.in-Some.n c.requires.few w.if-n-lt65536.false
    ])
