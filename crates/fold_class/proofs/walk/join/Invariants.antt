use Rattle.std.proofs.Common.{◌≡◌, ℕ, nat_lt, if◌then◌else◌}
use Rattle.fold_class.specs.{Kinds.greater, Walk.kinds_in}
use Rattle.fold_class.proofs.walk.join.Given as goal

abbrev pub invariant-loop-v : goal.invariant-loop-v
invariant-loop-v l = (s : ℕ) → kinds_in l.kinds s ≡ (if nat_lt s l.v then greater (kinds_in l.initial.kinds s) (kinds_in l.others s) else
    kinds_in l.initial.kinds s)
