-- a write fails where no place is free or where it is listed
use Rattle.std.proofs.{Common.{refl, inr, arith}, lemmas.Grind.common_steps}
use Rattle.marple_base.proofs.memory_sink.MemorySinkSink.write.Goals.{then-free-eq0-via-then-free-eq0}
use Rattle.marple_base.proofs.memory_sink.MemorySinkSink.write.Goals.{then-free-eq0-via-else-free-eq0+then-contains}
use Rattle.marple_base.proofs.memory_sink.MemorySinkSink.write.Goals as goal

pub returns-then-free-eq0-clause-fails : goal.returns-then-free-eq0-clause-fails
returns-then-free-eq0-clause-fails c = elim c.then-free-eq0.branch [
  | then-free-eq0-via-then-free-eq0 w ↦ (λ _. inr (omega (arith, w.if-free-eq0.true, c.len.ensures)), λ _. refl)
  | then-free-eq0-via-else-free-eq0+then-contains w ↦ grind (arith, common_steps)
]
