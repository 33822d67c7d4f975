use Rattle.std.proofs.Common.{◌≡◌, length}
use Rattle.query_grammar.specs.Grammar.{negated}
use Rattle.query_parser.proofs.expression.negated.Given as goal

abbrev pub invariant-bangs : goal.invariant-bangs
invariant-bangs l = negated l.bangs.items l.inner ≡ negated l.fn.bangs l.fn.inner

abbrev pub decreases-bangs : goal.decreases-bangs
decreases-bangs l = length l.bangs.items
