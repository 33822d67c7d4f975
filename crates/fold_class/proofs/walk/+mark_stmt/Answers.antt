-- A statement left of a branch assigns below the same number, and what it marks is marked before the others.
use Rattle.std.proofs.Common.{refl, rules, length, ◌∙◌}
use Rattle.query_lang.specs.declared.fold.TypedStmt.TheViews.{the_lemmas}
use Rattle.fold_class.{specs.Walk.kinds_in, proofs.WalkLemmas.{walks_marked, next_below, goes_on, ends, below_if, below_assign, marked_if}}
use Rattle.fold_class.proofs.walk.+mark_stmt.Goals as goal

pub then_block-init : goal.then_block-init
then_block-init t c = record {
  kinds = refl;
  below = (below_if c.in-If.is c.as_slice-inner-items.ensures refl (length c.args.kinds.now) c.requires).0;
}

pub mark_stmt-requires : goal.mark_stmt-requires
mark_stmt-requires t c =
    (search (rules, the_lemmas), next_below c.then_block.invariant c.then_block-test.true c.inner-item.is c.then_block.auto.kinds)

pub then_block-preserved : goal.then_block-preserved
then_block-preserved t c =
    goes_on c.then_block.invariant walks_marked c.then_block-test.true c.inner-item.is c.mark_stmt.ensures

pub else_block-init : goal.else_block-init
else_block-init t c = record {
  kinds = refl;
  below = (below_if c.in-If.is refl c.as_slice-inner-items-in-If.ensures (length c.args.kinds.now) c.requires).1;
}

pub mark_stmt-requires-in-else_block : goal.mark_stmt-requires-in-else_block
mark_stmt-requires-in-else_block t c = (
  search (rules, the_lemmas),
  next_below c.else_block.invariant c.else_block-test.true c.inner-item-in-else_block.is
      (c.else_block.auto.kinds ∙ c.then_block.auto.kinds),
)

pub else_block-preserved : goal.else_block-preserved
else_block-preserved t c = goes_on c.else_block.invariant walks_marked c.else_block-test.true c.inner-item-in-else_block.is
    c.mark_stmt-in-else_block.ensures

pub returns-after-else_block : goal.returns-after-else_block
returns-after-else_block t c = marked_if c.in-If.is c.as_slice-inner-items.ensures c.as_slice-inner-items-in-If.ensures
    (kinds_in c.args.kinds.now) (ends c.then_block.invariant walks_marked c.then_block-test.false)
    (ends c.else_block.invariant walks_marked c.else_block-test.false)

pub set_kind-requires : goal.set_kind-requires
set_kind-requires t c = below_assign c.in-Assign.is (length c.args.kinds.now) refl c.requires
