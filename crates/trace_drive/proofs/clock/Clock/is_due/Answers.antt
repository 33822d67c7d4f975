use Rattle.std.proofs.Common.{arith}
use Rattle.trace_drive.proofs.Counting.{clock_rests, clock_is_due}
use Rattle.trace_drive.proofs.clock.Clock.is_due.Goals as goal

pub returns-then-self-clause-is_due : goal.returns-then-self-clause-is_due
returns-then-self-clause-is_due c number counted =
    clock_rests c.args.self.now.every c.args.self.now.since number (counted (omega arith)) (omega arith)

pub returns-clause-is_due : goal.returns-clause-is_due
returns-clause-is_due c number counted =
    clock_is_due c.args.self.now.every c.args.self.now.since number (omega arith) (counted (omega arith)) (omega arith)
