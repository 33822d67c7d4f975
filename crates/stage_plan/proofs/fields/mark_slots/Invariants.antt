use Rattle.std.proofs.Common.{◌≡◌, drop}
use Rattle.stage_plan.specs.Marking.{marked_slots}
use Rattle.stage_plan.proofs.fields.mark_slots.Given as goal

abbrev pub invariant-loop-slot : goal.invariant-loop-slot
invariant-loop-slot l = marked_slots l.columns l.all (drop l.slot-index l.slots) ≡ marked_slots l.columns l.initial.all l.slots
