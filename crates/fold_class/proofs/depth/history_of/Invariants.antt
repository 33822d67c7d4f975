use Rattle.std.proofs.Common.{◌≡◌, ℕ, ◌<◌}
use Rattle.query_lang.specs.Folds.{fold_states}
use Rattle.fold_class.specs.{Depth.is_within, Walk.flag_in}
use Rattle.fold_class.proofs.depth.history_of.Given as goal

abbrev pub invariant-loop-round : goal.invariant-loop-round
invariant-loop-round l = (v : ℕ) → v < fold_states l.f → flag_in l.within v ≡ is_within l.f l._round v
