-- The kinds after the statements left of a branch are those after the whole branch from its first kinds.
use Rattle.query_lang.specs.{Blocks.block_of, declared.fault.TheConstants.MAX_STATES}
use Rattle.fold_class.{specs.{Kinds.kinds_after, Walk.kinds_in}, proofs.WalkLemmas.GoesOn}
use Rattle.fold_class.proofs.walk.+walk_stmt.Given as goal

abbrev pub invariant-then_block : goal.invariant-then_block
invariant-then_block g l = GoesOn (kinds_after (g.O.Operators.roles l.operators)) MAX_STATES l.inner-items l.inner-index (kinds_in l.kinds)
    (kinds_after (g.O.Operators.roles l.operators) (block_of l.inner-items) (kinds_in l.initial.kinds))

abbrev pub invariant-else_block : goal.invariant-else_block
invariant-else_block g l = GoesOn (kinds_after (g.O.Operators.roles l.operators)) MAX_STATES l.inner-items l.inner-index
    (kinds_in l.others) (kinds_after (g.O.Operators.roles l.operators) (block_of l.inner-items) (kinds_in l.initial.others))
