use Rattle.std.{proofs.Common.{◌≡◌, take}, specs.Prelude.map}
use Rattle.stage_plan.specs.Shape.{text_at}
use Rattle.stage_plan.proofs.groups.texts_of.Given as goal

abbrev pub invariant-loop-id : goal.invariant-loop-id
invariant-loop-id l = l.texts ≡ map (text_at l.names) (take l.id-index l.ids)
