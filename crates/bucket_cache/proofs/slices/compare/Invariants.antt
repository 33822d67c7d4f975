use Rattle.std.proofs.Common.{◌≡◌, drop}
use Rattle.epoch_model.specs.Keys.{key_eq}
use Rattle.bucket_cache.proofs.slices.compare.Given as goal

abbrev pub invariant-loop-i : goal.invariant-loop-i
invariant-loop-i l = key_eq l.a l.b ≡ key_eq (drop l.i l.a) (drop l.i l.b)
