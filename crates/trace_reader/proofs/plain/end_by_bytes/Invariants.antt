use Rattle.std.proofs.Common.{◌≡◌, ℕ, ◌<◌, ◌≤◌, false, get_or}
use Rattle.trace_reader.specs.Plain.{ends_field}
use Rattle.trace_reader.proofs.plain.end_by_bytes.Given as goal

abbrev pub invariant-loop-at : goal.invariant-loop-at
invariant-loop-at l = (k : ℕ) → l.from ≤ k → k < l.at → ends_field (get_or l.text k 0) ≡ false
