use Rattle.std.proofs.Common.{◌≡◌, drop}
use Rattle.stage_plan.specs.Making.{are_deep}
use Rattle.stage_plan.proofs.streams.has_deep.Given as goal

abbrev pub invariant-loop-one : goal.invariant-loop-one
invariant-loop-one l = are_deep (drop l.one-index l.ops) ≡ are_deep l.ops
