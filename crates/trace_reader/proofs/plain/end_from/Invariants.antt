use Rattle.std.proofs.Common.{◌≡◌, ℕ, ◌-◌, ◌<◌, ◌≤◌, false, get_or, length}
use Rattle.trace_reader.specs.Plain.{ends_field}
use Rattle.trace_reader.proofs.plain.end_from.Given as goal

abbrev pub invariant-words : goal.invariant-words
invariant-words l = record {
  within : l.at ≤ length l.text;
  later : l.from ≤ l.at;
  goes : (k : ℕ) → l.from ≤ k → k < l.at → ends_field (get_or l.text k 0) ≡ false;
}

abbrev pub decreases-words : goal.decreases-words
decreases-words l = length l.text - l.at
