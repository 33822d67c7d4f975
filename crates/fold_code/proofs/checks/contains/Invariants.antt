use Rattle.std.proofs.Common.{◌≡◌, drop}
use Rattle.fold_code.specs.Checks.{is_in}
use Rattle.fold_code.proofs.checks.contains.Given as goal

abbrev pub invariant-loop-place : goal.invariant-loop-place
invariant-loop-place l = is_in (drop l.place-index l.places) l.v ≡ is_in l.places l.v
