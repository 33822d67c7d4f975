use Rattle.std.proofs.Common.{take}
use Rattle.enclosed_query.specs.Holding.{StartFromWords}
use Rattle.enclosed_query.proofs.starts.starts_known.Given as goal

-- the initial words of the folds so far
abbrev pub invariant-loop-f : goal.invariant-loop-f
invariant-loop-f l = StartFromWords (take l.f-index l.q.folds)
