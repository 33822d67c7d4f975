use Rattle.split_fields.{specs.Splits.may_split, proofs.SetFacts.AreBelow}
use Rattle.split_fields.proofs.choice.split_fields.Given as goal

abbrev pub invariant-loop-i : goal.invariant-loop-i
invariant-loop-i l = AreBelow (may_split l.q) l.fields l.i
