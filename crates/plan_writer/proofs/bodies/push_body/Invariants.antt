use Rattle.std.proofs.Common.{◌≡◌, ◌++◌, drop}
use Rattle.query_lang.specs.Blocks.{block_of}
use Rattle.plan_writer.specs.Words.{spaced, block_words}
use Rattle.plan_writer.proofs.bodies.push_body.Given as goal

abbrev pub invariant-loop-s : goal.invariant-loop-s
invariant-loop-s l = l.text ++ spaced (block_words l.states (block_of (drop l.s-index l.body))) ≡ l.initial.text
    ++ spaced (block_words l.states (block_of l.body))
