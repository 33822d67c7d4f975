-- Each stream adds the operations that it makes of those before it, until one is too deep.
use Rattle.std.proofs.{Common.{◌≡◌, ◌+◌, ◌≤◌, false, length, sym, ap, ◌∙◌, arith}, lemmas.List.length_push}
use Rattle.stage_plan.{specs.{Counting.op_most, Making.are_deep}, proofs.Counts.{Stands, stands, op_fits, fold_fits, inputs_at}}
use Rattle.stage_plan.proofs.NextStream.{IsNext, is_next, next_made, next_fault}
use Rattle.stage_plan.proofs.streams.make_each.Goals as goal

pub make_stream-requires : goal.make_stream-requires
make_stream-requires c =
    let q = c.args.q.now in
    let op = c.one-item.result.op in
    let here : Stands q c.loop-one.one-index op = stands q _ c.loop-one.one-index _ c.requires.valid c.as_slice-one-items.ensures
    c.loop-one-test.true c.one-item.is
    in
    let most : op_most c.as_slice.result.now op ≤ 641 = op_fits q _ _ op c.as_slice.ensures here in
    let before = c.loop-one.invariant.few in
    let bindings = c.requires.valid.most_bindings in
    let long = ap length c.as_slice-one-items.ensures in
    let later = c.loop-one-test.true in
    let made : c.loop-one.one-index + 1 ≡ length c.as_slice-in-loop-one.result.now =
    omega (arith, ap length c.as_slice-in-loop-one.ensures, c.loop-one.invariant.long) in
    record {
      inputs = inputs_at _ _ op made here.inputs;
      fold = fold_fits q _ _ op c.as_slice.ensures here;
      room = omega arith;
    }

pub loop-one-preserved : goal.loop-one-preserved
loop-one-preserved c =
    let q = c.args.q.now in
    let op = c.one-item.result.op in
    let here : Stands q c.loop-one.one-index op = stands q _ c.loop-one.one-index _ c.requires.valid c.as_slice-one-items.ensures
    c.loop-one-test.true c.one-item.is
    in
    let most : op_most c.as_slice.result.now op ≤ 641 = op_fits q _ _ op c.as_slice.ensures here in
    let items = c.as_slice-one-items.result.now in
    let i = c.loop-one.one-index in
    let next : IsNext q.folds c.loop-one.made.ops c.make_stream.new.ops c.loop-one.made.streams c.push.new.self items i
    c.one-item.result = is_next _ _ c.loop-one.made.ops _ _ _ _ _ items i _
    c.loop-one-test.true c.one-item.is c.as_slice.ensures c.as_slice-in-loop-one.ensures c.in_ok-wires.ensures.ops
    c.in_ok-wires.ensures.wires c.in_ok-push.ensures.ok
    in
    let shallow : are_deep c.make_stream.new.ops ≡ false = ap are_deep (sym c.as_slice-in-loop-one-2.ensures) ∙ sym c.has_deep.ensures
    ∙ c.if-has_deep.false in
    record {
      made = next_made q.folds c.loop-one.made.ops c.make_stream.new.ops c.loop-one.made.streams c.push.new.self items i c.one-item.result
          next ∙ c.loop-one.invariant.made;
      fault = next_fault q.folds c.loop-one.made.ops c.make_stream.new.ops c.loop-one.made.streams c.push.new.self items i
          c.one-item.result next shallow ∙ c.loop-one.invariant.fault;
      few = omega (arith, c.loop-one.invariant.few, c.in_ok-wires.ensures.few);
      long = omega (
        arith,
        ap length c.in_ok-push.ensures.ok,
        length_push c.loop-one.made.streams c.in_ok-wires.wires,
        c.loop-one.invariant.long,
      );
    }
