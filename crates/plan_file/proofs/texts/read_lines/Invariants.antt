use Rattle.std.proofs.Common.{ℕ, ◌≤◌, ◌-◌, length}
use Rattle.plan_file.{specs.{declared.texts.TheConstants.MAX_PLAN, Lines.IsWithin}, proofs.ReadFacts.IsReached}
use Rattle.plan_file.proofs.texts.read_lines.Given as goal

abbrev pub invariant-lines : goal.invariant-lines
invariant-lines l = record {
  within : l.at ≤ length l.text;
  small : length l.text ≤ MAX_PLAN;
  limits : IsWithin l.made;
  reached : (i : ℕ) × IsReached l.text i l.at l.made;
}

abbrev pub decreases-lines : goal.decreases-lines
decreases-lines l = length l.text - l.at
