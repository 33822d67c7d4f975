use Rattle.std.proofs.Common.{◌≡◌, ℕ, ◌<◌, false}
use Rattle.query_lang.specs.Folds.{fold_states}
use Rattle.fold_class.{specs.{Depth.is_within, Walk.flag_in}, proofs.DepthLemmas.is_covered}
use Rattle.fold_class.proofs.depth.depth_of.Given as goal

abbrev pub invariant-loop-depth : goal.invariant-loop-depth
invariant-loop-depth l = record {
  within : (v : ℕ) → v < fold_states l.f → flag_in l.within v ≡ is_within l.f l.depth v;
  above : (e : ℕ) → e < l.depth → is_covered l.f e ≡ false;
}
