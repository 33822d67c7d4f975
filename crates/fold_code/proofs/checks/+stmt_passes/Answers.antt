-- Assignments of both branches pass under the condition, and the first that doesn't is the statement's answer.
use Rattle.std.proofs.Common.{true, false, sym, ◌∙◌}
use Rattle.query_lang.specs.Blocks.{block_of}
use Rattle.fold_code.{specs.Checks.{is_in, all_pass}, proofs.CheckLemmas.{pass_rest, pass_stop, pass_end, pass_if}}
use Rattle.fold_code.proofs.checks.+stmt_passes.Goals as goal

pub then_block-preserved : goal.then_block-preserved
then_block-preserved g t c =
    let known = is_in c.args.known.now in
    let passes = g.C.Checks.passes c.args.checks.now c.args.states known in
    let p = c.as_slice-inner-items.result.now in
    pass_rest c.args.states known passes c.stays_known-inside.result p c.then_block.inner-index c.inner-item.result
    (all_pass c.args.states known passes c.stays_known-inside.result (block_of p)) c.then_block-test.true c.inner-item.is
    (sym c.if-not-stmt_passes.false ∙ c.stmt_passes.ensures) c.then_block.invariant

pub returns-then-not-stmt_passes-2 : goal.returns-then-not-stmt_passes-2
returns-then-not-stmt_passes-2 g t c =
    let known = is_in c.args.known.now in
    let passes = g.C.Checks.passes c.args.checks.now c.args.states known in
    let p = c.as_slice-inner-items.result.now in
    let q = c.as_slice-inner-items-in-If.result.now in
    sym (pass_if c.args.states known passes c.args.free c.stays_known-inside.result c.args.s.now c.in-If.c c.in-If.a c.in-If.b p q true
    false c.in-If.is c.as_slice-inner-items.ensures c.as_slice-inner-items-in-If.ensures c.stays_known-inside.ensures
    (pass_end c.args.states known passes c.stays_known-inside.result p c.then_block.inner-index
    (all_pass c.args.states known passes c.stays_known-inside.result (block_of p)) c.then_block-test.false c.then_block.invariant)
    (pass_stop c.args.states known passes c.stays_known-inside.result q c.else_block.inner-index c.inner-item-in-else_block.result
    (all_pass c.args.states known passes c.stays_known-inside.result (block_of q)) c.else_block-test.true c.inner-item-in-else_block.is
    (sym c.if-not-stmt_passes-2.true ∙ c.stmt_passes-in-else_block.ensures) c.else_block.invariant))

pub else_block-preserved : goal.else_block-preserved
else_block-preserved g t c =
    let known = is_in c.args.known.now in
    let passes = g.C.Checks.passes c.args.checks.now c.args.states known in
    let q = c.as_slice-inner-items-in-If.result.now in
    pass_rest c.args.states known passes c.stays_known-inside.result q c.else_block.inner-index c.inner-item-in-else_block.result
    (all_pass c.args.states known passes c.stays_known-inside.result (block_of q)) c.else_block-test.true c.inner-item-in-else_block.is
    (sym c.if-not-stmt_passes-2.false ∙ c.stmt_passes-in-else_block.ensures) c.else_block.invariant

pub returns-after-else_block : goal.returns-after-else_block
returns-after-else_block g t c =
    let known = is_in c.args.known.now in
    let passes = g.C.Checks.passes c.args.checks.now c.args.states known in
    let p = c.as_slice-inner-items.result.now in
    let q = c.as_slice-inner-items-in-If.result.now in
    sym (pass_if c.args.states known passes c.args.free c.stays_known-inside.result c.args.s.now c.in-If.c c.in-If.a c.in-If.b p q true true
    c.in-If.is c.as_slice-inner-items.ensures c.as_slice-inner-items-in-If.ensures c.stays_known-inside.ensures
    (pass_end c.args.states known passes c.stays_known-inside.result p c.then_block.inner-index
    (all_pass c.args.states known passes c.stays_known-inside.result (block_of p)) c.then_block-test.false c.then_block.invariant)
    (pass_end c.args.states known passes c.stays_known-inside.result q c.else_block.inner-index
    (all_pass c.args.states known passes c.stays_known-inside.result (block_of q)) c.else_block-test.false c.else_block.invariant))
