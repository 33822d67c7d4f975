use Rattle.std.proofs.Common.{◌≡◌}
use Rattle.fold_class.specs.{Tables.all_below, Kinds.is_no_other, Walk.kinds_in}
use Rattle.fold_class.proofs.kept.none_other.Given as goal

abbrev pub invariant-loop-v : goal.invariant-loop-v
invariant-loop-v l = l.none ≡ all_below l.v (λ v. is_no_other (kinds_in l.kinds v))
