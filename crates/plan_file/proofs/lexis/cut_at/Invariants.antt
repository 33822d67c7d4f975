use Rattle.std.proofs.Common.{◌≡◌, ℕ, ◌<◌, get_or, false}
use Rattle.plan_file.specs.Lexis.{is_byte}
use Rattle.plan_file.proofs.lexis.cut_at.Given as goal

abbrev pub invariant-loop-i : goal.invariant-loop-i
invariant-loop-i l = (k : ℕ) → k < l.i → is_byte l.byte (get_or l.text k 0) ≡ false
