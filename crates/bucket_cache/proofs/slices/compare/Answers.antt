use Rattle.std.proofs.Common.{◌∙◌, sym, arith}
use Rattle.bucket_cache.proofs.Moves.{differ_at, agree_at, agree_to_end}
use Rattle.bucket_cache.proofs.slices.compare.Goals as goal

pub returns-then-a-i-clause-answer : goal.returns-then-a-i-clause-answer
returns-then-a-i-clause-answer c =
    sym (c.loop-i.invariant ∙ differ_at c.args.a.now c.args.b.now c.loop-i.i (omega arith) (omega arith) c.if-a-i.true)

pub loop-i-preserved : goal.loop-i-preserved
loop-i-preserved c = c.loop-i.invariant ∙ agree_at c.args.a.now c.args.b.now c.loop-i.i (omega arith) (omega arith) c.if-a-i.false

pub returns-clause-answer : goal.returns-clause-answer
returns-clause-answer c = sym (c.loop-i.invariant ∙ agree_to_end c.args.a.now c.args.b.now c.loop-i.i (omega arith) (omega arith))
