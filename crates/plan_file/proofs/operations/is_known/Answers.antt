use Rattle.std.proofs.{Common.{◌≤◌, ◌+◌, length, arith}, lemmas.Bool.Decides.nat_tests}
use Rattle.marple_base.specs.declared.field.TheConstants.{FIELDS}
use Rattle.plan_file.proofs.OperandFacts.{not_known}
use Rattle.plan_file.proofs.operations.is_known.Goals as goal

pub returns-else-n-clause-no : goal.returns-else-n-clause-no
returns-else-n-clause-no c past =
    let large : FIELDS + length c.args.ops.now ≤ c.args.n = grind (arith, nat_tests) in
    not_known c.args.fields.now c.args.ops.now c.args.n c.if-n.false large
