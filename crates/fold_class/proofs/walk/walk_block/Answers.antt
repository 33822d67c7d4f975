-- The kinds so far, and what the statements that are left make of them, are those after the block.
use Rattle.std.proofs.Common.{◌∙◌, refl}
use Rattle.fold_class.proofs.WalkLemmas.{walks_kinds, next_below, goes_on, ends}
use Rattle.fold_class.proofs.walk.walk_block.Goals as goal

pub loop-s-init : goal.loop-s-init
loop-s-init g c = record { kinds = refl; below = c.requires.below }

pub walk_stmt-requires : goal.walk_stmt-requires
walk_stmt-requires g c = record {
  size = c.loop-s.auto.kinds ∙ c.requires.size;
  below = next_below c.loop-s.invariant c.loop-s-test.true c.s-item.is refl;
}

pub loop-s-preserved : goal.loop-s-preserved
loop-s-preserved g c = goes_on c.loop-s.invariant (walks_kinds (g.O.Operators.roles c.args.operators.now)) c.loop-s-test.true c.s-item.is
    c.walk_stmt.ensures

pub returns : goal.returns
returns g c = ends c.loop-s.invariant (walks_kinds (g.O.Operators.roles c.args.operators.now)) c.loop-s-test.false
