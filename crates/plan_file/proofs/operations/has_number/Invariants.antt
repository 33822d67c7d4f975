use Rattle.std.proofs.Common.{◌≡◌, ℕ, ◌<◌, map, get_or}
use Rattle.marple_base.specs.Field.{number_of}
use Rattle.plan_file.proofs.operations.has_number.Given as goal

abbrev pub invariant-loop-f : goal.invariant-loop-f
invariant-loop-f l = (k : ℕ) → k < l.f-index → get_or (map number_of l.fields) k 0 ≡ l.n → ⊥
