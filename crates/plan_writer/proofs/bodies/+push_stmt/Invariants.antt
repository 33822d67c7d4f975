use Rattle.std.proofs.Common.{◌≡◌, ◌++◌, drop}
use Rattle.query_lang.specs.Blocks.{block_of}
use Rattle.plan_writer.specs.Words.{spaced, block_words}
use Rattle.plan_writer.proofs.bodies.+push_stmt.Given as goal

abbrev pub invariant-then_block : goal.invariant-then_block
invariant-then_block l = l.text ++ spaced (block_words l.states (block_of (drop l.inner-index l.inner-items))) ≡ l.initial.text
    ++ spaced (block_words l.states (block_of l.inner-items))

abbrev pub invariant-else_block : goal.invariant-else_block
invariant-else_block l = l.text ++ spaced (block_words l.states (block_of (drop l.inner-index l.inner-items))) ≡ l.initial.text
    ++ spaced (block_words l.states (block_of l.inner-items))
