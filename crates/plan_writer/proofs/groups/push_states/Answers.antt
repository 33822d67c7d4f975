use Rattle.std.{proofs.Common.arith, specs.Prelude.{codes, decimal}}
use Rattle.plan_writer.proofs.NamedLines.{named_end}
use Rattle.plan_writer.proofs.groups.push_states.Goals as goal

pub returns : goal.returns
returns c = named_end decimal (codes "state") c.args.names.now c.args.initial.now c.loop-at.at c.loop-at.text _
    (omega (arith, c.loop-at-test.false, c.min-at-end.ensures)) c.loop-at.invariant
