use Rattle.std.proofs.Common.{◌≡◌, ℕ, ◌<◌, not, ◌&&◌, nat_lt, if◌then◌else◌, length}
use Rattle.fold_class.specs.Walk.{kinds_in, is_other, flag_in}
use Rattle.fold_class.proofs.depth.strike.Given as goal

abbrev pub invariant-loop-v : goal.invariant-loop-v
invariant-loop-v l = (s : ℕ) → s < length l.flags → flag_in l.flags s ≡ (if nat_lt s l.v then flag_in l.initial.flags s && not
    (is_other (kinds_in l.kinds s)) else flag_in l.initial.flags s)
