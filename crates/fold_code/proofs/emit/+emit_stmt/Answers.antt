-- A choice makes a mask for each branch, and the instructions of the branches under them are those of the statement.
use Rattle.std.proofs.Common.{refl, rules, arith, vec_len}
use Rattle.query_lang.specs.declared.fold.TypedStmt.TheViews.{the_lemmas}
use Rattle.fold_code.proofs.CodeLemmas.{emits_all, emits_more, emits_room, emitted_if, size_choice}
use Rattle.fold_code.proofs.emit.+emit_stmt.Goals as goal

pub emit_stmt-requires : goal.emit_stmt-requires
emit_stmt-requires t c =
    let size = size_choice (vec_len c.args.code.now) c.in-If.is c.as_slice-inner-items.ensures refl c.in_ok-condition-in-If.ensures.length
    c.in_ok-then_mask-in-If.ensures.length c.in_ok-else_mask-in-If.ensures.length in (
      search (rules, the_lemmas),
      emits_room c.then_block.invariant c.then_block-test.true c.inner-item.is (omega (arith, size, c.requires.room)),
    )

pub then_block-preserved : goal.then_block-preserved
then_block-preserved t c = emits_more c.then_block.invariant c.then_block-test.true c.inner-item.is c.in_ok-emit_stmt-in-If.ensures.items
    c.in_ok-emit_stmt-in-If.ensures.length

pub emit_stmt-requires-in-else_block : goal.emit_stmt-requires-in-else_block
emit_stmt-requires-in-else_block t c =
    let size = size_choice (vec_len c.args.code.now) c.in-If.is c.as_slice-inner-items.ensures c.as_slice-inner-items-in-If.ensures
    c.in_ok-condition-in-If.ensures.length c.in_ok-then_mask-in-If.ensures.length c.in_ok-else_mask-in-If.ensures.length in
    let first = (emits_all c.then_block.invariant c.then_block-test.false).1 in (
      search (rules, the_lemmas),
      emits_room c.else_block.invariant c.else_block-test.true c.inner-item-in-else_block.is (omega (arith, size, first, c.requires.room)),
    )

pub else_block-preserved : goal.else_block-preserved
else_block-preserved t c = emits_more c.else_block.invariant c.else_block-test.true c.inner-item-in-else_block.is
    c.in_ok-emit_stmt-in-If-2.ensures.items c.in_ok-emit_stmt-in-If-2.ensures.length

pub returns-after-else_block : goal.returns-after-else_block
returns-after-else_block t c =
    let first = emits_all c.then_block.invariant c.then_block-test.false in
    let second = emits_all c.else_block.invariant c.else_block-test.false in
    let size = size_choice (vec_len c.args.code.now) c.in-If.is c.as_slice-inner-items.ensures c.as_slice-inner-items-in-If.ensures
    c.in_ok-condition-in-If.ensures.length c.in_ok-then_mask-in-If.ensures.length c.in_ok-else_mask-in-If.ensures.length in
    let then_place = c.in_ok-then_mask-in-If.ensures.place in
    let else_place = c.in_ok-else_mask-in-If.ensures.place in
    let condition = c.in_ok-condition-in-If.ensures in
    record {
      items = emitted_if _ _ _ c.args.s.now c.in-If.c c.in-If.a c.in-If.b c.as_slice-inner-items.result.now
          c.as_slice-inner-items-in-If.result.now _ _ _ _ _ _ _ _ _ _ _ c.in-If.is c.as_slice-inner-items.ensures
          c.as_slice-inner-items-in-If.ensures condition.items c.in_ok-then_mask-in-If.ensures.items c.in_ok-else_mask-in-If.ensures.items
          first.0 second.0 condition.place (omega (arith, then_place, condition.length))
          (omega (arith, then_place, else_place, c.in_ok-then_mask-in-If.ensures.length))
          (omega (arith, then_place, c.in_ok-then_mask-in-If.ensures.length, c.in_ok-else_mask-in-If.ensures.length)) first.1;
      length = omega (arith, size, first.1, second.1);
    }
