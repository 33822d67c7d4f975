use Rattle.std.proofs.Common.{◌≡◌, not, ◌||◌}
use Rattle.fold_class.specs.{Tables.all_below, Walk.flag_in}
use Rattle.fold_class.proofs.depth.covers.Given as goal

abbrev pub invariant-loop-v : goal.invariant-loop-v
invariant-loop-v l = l.all ≡ all_below l.v (λ v. not (flag_in l.flags v) || flag_in l.others v)
