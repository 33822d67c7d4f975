use Rattle.std.proofs.Common.{◌≡◌, ℕ, ◌<◌, not, ◌||◌}
use Rattle.query_lang.specs.Folds.{fold_states}
use Rattle.fold_class.specs.{Tables.all_below, Depth.fold_reads, Walk.flag_in}
use Rattle.fold_class.proofs.depth.next_round.Given as goal

abbrev pub invariant-loop-u : goal.invariant-loop-u
invariant-loop-u l = (v : ℕ) → v < fold_states l.f → flag_in l.next v ≡ all_below l.u (λ u. not (fold_reads l.f v u) || flag_in l.within u)
