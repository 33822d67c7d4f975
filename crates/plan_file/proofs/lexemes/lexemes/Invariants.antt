use Rattle.std.{proofs.Common.{◌≡◌, ◌+◌, ◌++◌, length}, specs.Prelude.{map, if◌then◌else◌}}
use Rattle.plan_file.specs.{Lexis.tokens_left, Lexemes.lexeme_of}
use Rattle.plan_file.proofs.lexemes.lexemes.Given as goal

abbrev pub invariant-tokens : goal.invariant-tokens
invariant-tokens l = l.all ++ map lexeme_of (tokens_left l.left l.rest) ≡ map lexeme_of (tokens_left l.more l.text)

abbrev pub decreases-tokens : goal.decreases-tokens
decreases-tokens l = length l.rest + (if l.left then 1 else 0)
