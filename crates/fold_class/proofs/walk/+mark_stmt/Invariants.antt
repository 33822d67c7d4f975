-- Marking the statements left of a branch leaves the kinds that marking the whole branch does.
use Rattle.std.proofs.Common.{length}
use Rattle.query_lang.specs.Blocks.{block_of}
use Rattle.fold_class.{specs.{Kinds.marked, Walk.kinds_in}, proofs.WalkLemmas.GoesOn}
use Rattle.fold_class.proofs.walk.+mark_stmt.Given as goal

abbrev pub invariant-then_block : goal.invariant-then_block
invariant-then_block l = GoesOn marked (length l.fn.kinds) l.inner-items l.inner-index (kinds_in l.kinds)
    (marked (block_of l.inner-items) (kinds_in l.initial.kinds))

abbrev pub invariant-else_block : goal.invariant-else_block
invariant-else_block l = GoesOn marked (length l.fn.kinds) l.inner-items l.inner-index (kinds_in l.kinds)
    (marked (block_of l.inner-items) (kinds_in l.initial.kinds))
