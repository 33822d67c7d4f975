use Rattle.std.proofs.Common.{◌≡◌, [], map, drop}
use Rattle.query_lang.specs.{Checks.collected, TypedExprs.slot_of}
use Rattle.query_types.proofs.columns.argument_slots.Given as goal

abbrev pub invariant-loop-id : goal.invariant-loop-id
invariant-loop-id l = collected l.slots (map (λ id. slot_of l.columns l.hidden (record { id = id; span = l.span }))
    (drop l.id-index l.id-items)) ≡ collected [] (map (λ id. slot_of l.columns l.hidden (record { id = id; span = l.span })) l.id-items)
