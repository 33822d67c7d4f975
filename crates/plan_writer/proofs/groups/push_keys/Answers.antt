use Rattle.std.{proofs.Common.arith, specs.Prelude.codes}
use Rattle.plan_writer.{specs.Words.operand_word, proofs.NamedLines.named_end}
use Rattle.plan_writer.proofs.groups.push_keys.Goals as goal

pub returns : goal.returns
returns c = named_end operand_word (codes "key") c.args.names.now c.args.values.now c.loop-at.at c.loop-at.text _
    (omega (arith, c.loop-at-test.false, c.min-at-end.ensures)) c.loop-at.invariant
