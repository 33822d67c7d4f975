use Rattle.query_lang.specs.{Blocks.block_of, declared.fault.TheConstants.MAX_STATES}
use Rattle.fold_class.{specs.{Kinds.kinds_after, Walk.kinds_in}, proofs.WalkLemmas.GoesOn}
use Rattle.fold_class.proofs.walk.walk_block.Given as goal

abbrev pub invariant-loop-s : goal.invariant-loop-s
invariant-loop-s g l = GoesOn (kinds_after (g.O.Operators.roles l.operators)) MAX_STATES l.block l.s-index (kinds_in l.kinds)
    (kinds_after (g.O.Operators.roles l.operators) (block_of l.block) (kinds_in l.initial.kinds))
