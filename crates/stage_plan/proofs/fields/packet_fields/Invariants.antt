use Rattle.std.{proofs.Common.{◌≡◌, take, Some}, specs.Prelude.map}
use Rattle.stage_plan.proofs.fields.packet_fields.Given as goal

abbrev pub invariant-loop-f : goal.invariant-loop-f
invariant-loop-f l = l.columns ≡ map Some (take l.f-index l.f-items)
