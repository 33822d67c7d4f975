-- Operations in the order of their stages, with registers by that order and groups wired to them, are the plan.
use Rattle.std.proofs.{Common.{ap, length}, lemmas.Result.IfOk-weaker}
use Rattle.stage_plan.{specs.Making.packet_wires, proofs.Counts.{all_inputs, all_fit}}
use Rattle.stage_plan.proofs.Putting.{IsPut, numbers_within, few_numbers, order_from, put_from}
use Rattle.stage_plan.proofs.planner.put_plan.Goals as goal

pub registers_in-requires-clause-numbers : goal.registers_in-requires-clause-numbers
registers_in-requires-clause-numbers c = numbers_within c.args.made.now.ops _ _ (order_from _ _ _ _ _
    c.as_slice-ops.ensures c.greatest_stage.ensures c.in_ok-order.ensures c.as_slice.ensures) (ap length c.as_slice-ops.ensures)

pub registers_in-requires-clause-few : goal.registers_in-requires-clause-few
registers_in-requires-clause-few c = few_numbers _ _ _ _ c.requires
    (order_from _ _ _ _ _ c.as_slice-ops.ensures c.greatest_stage.ensures c.in_ok-order.ensures c.as_slice.ensures)

pub wire_groups-requires : goal.wire_groups-requires
wire_groups-requires c =
    all_inputs _ _ _ packet_wires _ c.requires.valid c.requires.streams_are c.as_slice-5.ensures c.as_slice-4.ensures

pub plan_groups-requires : goal.plan_groups-requires
plan_groups-requires c = record {
  folds = c.requires.valid.folds;
  names = c.requires.valid.fold_names;
  fits = all_fit _ c.requires.valid;
}

pub of_parts-requires : goal.of_parts-requires
of_parts-requires c = (put_from _ _ _ _ _ _ _ _ _ _ _ _ _ _ _ c.in_ok-groups.groups _ c.requires
    c.as_slice-ops.ensures c.greatest_stage.ensures c.in_ok-order.ensures c.as_slice.ensures c.in_ok-registers.ensures.placed
    c.in_ok-registers.ensures.long c.as_slice-2.ensures c.as_slice-3.ensures c.in_ok-sorted.ensures
    c.as_slice-4.ensures c.as_slice-5.ensures c.as_slice-6.ensures c.in_ok-wiring.ensures
    c.in_ok-groups.ensures.shapes c.in_ok-groups.ensures.sound c.in_ok-groups.ensures.all c.in_ok-reads.ensures).is_sound

pub returns : goal.returns
returns c =
    let p : IsPut c.args.q.now _ = put_from _ _ _ _ _ _ _ _ _ _ _ _ _ _ _ c.in_ok-groups.groups _ c.requires
    c.as_slice-ops.ensures c.greatest_stage.ensures c.in_ok-order.ensures c.as_slice.ensures c.in_ok-registers.ensures.placed
    c.in_ok-registers.ensures.long c.as_slice-2.ensures c.as_slice-3.ensures c.in_ok-sorted.ensures
    c.as_slice-4.ensures c.as_slice-5.ensures c.as_slice-6.ensures c.in_ok-wiring.ensures
    c.in_ok-groups.ensures.shapes c.in_ok-groups.ensures.sound c.in_ok-groups.ensures.all c.in_ok-reads.ensures
    in
    IfOk-weaker c.of_parts.result _ _ (λ plan is. rw is p.is_plan) c.of_parts.ensures
