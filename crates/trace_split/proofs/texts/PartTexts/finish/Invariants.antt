use Rattle.std.proofs.Common.{◌≤◌}
use Rattle.trace_split.proofs.HoldFacts.{Ended}
use Rattle.trace_split.proofs.texts.PartTexts.finish.Given as goal

-- what waited of the parts before this one is written
abbrev pub invariant-loop-part : goal.invariant-loop-part
invariant-loop-part g l = record {
  ended : Ended (g.P.Parts.taken l.fn.parts) (g.P.Parts.taken l.parts) l.self.waiting.items l.part;
  later : g.P.Parts.faults l.fn.parts ≤ g.P.Parts.faults l.parts;
}
