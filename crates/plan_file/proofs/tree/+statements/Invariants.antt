-- The statements found and the tokens left are those of every block that is written there.
use Rattle.std.proofs.Common.{◌≡◌, ◌≤◌, ◌+◌, ◌*◌, ◌-◌, ◌++◌, List, length}
use Rattle.query_lang.specs.{Blocks.Block, Folds.IsValidBlock}
use Rattle.plan_file.{specs.{declared.lexemes.Lexeme.Lexeme, Bodies.written_block, Trees.Closes}, proofs.TreeFacts.IsLeft}
use Rattle.plan_file.proofs.tree.+statements.Given as goal

abbrev pub decreases-braced : goal.decreases-braced
decreases-braced l = 2 * length l.words.now

abbrev pub decreases-choice : goal.decreases-choice
decreases-choice l = 2 * length l.words.now

abbrev pub decreases-statement : goal.decreases-statement
decreases-statement l = 2 * length l.words.now

abbrev pub decreases-statements : goal.decreases-statements
decreases-statements l = 2 * length l.words.now + 1

abbrev pub invariant-statements-statements : goal.invariant-statements-statements
invariant-statements-statements l = record {
  size : length l.left ≤ length l.words;
  goes : (b : Block) (rest : List Lexeme) → Closes rest → IsValidBlock l.reader.states (l.reader.slots - l.reader.states) b
      → l.words ≡ written_block l.reader.states b ++ rest
      → IsLeft l.reader.states (l.reader.slots - l.reader.states) l.found l.left b rest;
}

abbrev pub decreases-statements-statements : goal.decreases-statements-statements
decreases-statements-statements l = length l.left
