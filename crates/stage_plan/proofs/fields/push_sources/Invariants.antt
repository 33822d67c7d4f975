use Rattle.std.{proofs.Common.{◌≡◌, ◌++◌, take}, specs.Prelude.map}
use Rattle.stage_plan.specs.Fields.{source_at}
use Rattle.stage_plan.proofs.fields.push_sources.Given as goal

abbrev pub invariant-loop-slot : goal.invariant-loop-slot
invariant-loop-slot l = l.into ≡ l.initial.into ++ map (source_at l.columns) (take l.slot-index l.slots)
