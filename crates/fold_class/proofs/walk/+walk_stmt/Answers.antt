-- Where the condition is pure, the kinds are those after either branch, joined variable by variable.
use Rattle.std.proofs.Common.{ap, ◌∙◌, refl, rules}
use Rattle.query_lang.specs.Blocks.{block_of, stmt_block}
use Rattle.query_lang.specs.declared.{fold.TypedStmt.TheViews.the_lemmas, fault.TheConstants.MAX_STATES}
use Rattle.fold_class.specs.{Kinds.kinds_after, Walk.kinds_in}
use Rattle.fold_class.proofs.WalkLemmas.{walks_kinds, next_below, goes_on, ends, below_if, below_assign, below_sized, joined_if}
use Rattle.fold_class.proofs.walk.+walk_stmt.Goals as goal

pub then_block-init : goal.then_block-init
then_block-init g t c = record {
  kinds = refl;
  below = (below_if c.in-If.is c.as_slice-inner-items.ensures refl MAX_STATES c.requires.below).0;
}

pub walk_stmt-requires : goal.walk_stmt-requires
walk_stmt-requires g t c κs lives = (
  search (rules, the_lemmas),
  (lives, (c.then_block.auto.kinds ∙ c.requires.size, next_below c.then_block.invariant c.then_block-test.true c.inner-item.is refl)),
)

pub then_block-preserved : goal.then_block-preserved
then_block-preserved g t c = goes_on c.then_block.invariant (walks_kinds (g.O.Operators.roles c.args.operators.now)) c.then_block-test.true
    c.inner-item.is c.walk_stmt.ensures

pub else_block-init : goal.else_block-init
else_block-init g t c = record {
  kinds = refl;
  below = (below_if c.in-If.is refl c.as_slice-inner-items-in-Pure.ensures MAX_STATES c.requires.below).1;
}

pub walk_stmt-requires-in-else_block : goal.walk_stmt-requires-in-else_block
walk_stmt-requires-in-else_block g t c κs lives = (
  search (rules, the_lemmas),
  (lives, (search rules, next_below c.else_block.invariant c.else_block-test.true c.inner-item-in-else_block.is refl)),
)

pub else_block-preserved : goal.else_block-preserved
else_block-preserved g t c = goes_on c.else_block.invariant (walks_kinds (g.O.Operators.roles c.args.operators.now)) c.else_block-test.true
    c.inner-item-in-else_block.is c.walk_stmt-in-else_block.ensures

pub returns-after-else_block : goal.returns-after-else_block
returns-after-else_block g t c =
    let roles = g.O.Operators.roles c.args.operators.now in
    let q = c.as_slice-inner-items-in-Pure.result.now in
    joined_if c.in-If.is c.as_slice-inner-items.ensures c.as_slice-inner-items-in-Pure.ensures roles (kinds_in c.args.kinds.now)
    c.in-Pure.ensures (ends c.then_block.invariant (walks_kinds roles) c.then_block-test.false)
    (ends c.else_block.invariant (walks_kinds roles) c.else_block-test.false
    ∙ ap (λ z. kinds_after roles (block_of q) (kinds_in z)) c.copied-others.ensures) c.join.ensures

pub set_kind-requires : goal.set_kind-requires
set_kind-requires g t c = below_assign c.in-Assign.is MAX_STATES c.requires.size c.requires.below

pub mark_stmt-requires : goal.mark_stmt-requires
mark_stmt-requires g t c = below_sized (stmt_block c.args.s.now) c.requires.size c.requires.below

pub copied-others-requires : goal.copied-others-requires
copied-others-requires g t c = c.requires.size
