use Rattle.std.proofs.Common.{◌≡◌, length, Some}
use Rattle.query_grammar.specs.Grammar.{else_of}
use Rattle.query_parser.proofs.statement.else_of.Given as goal

abbrev pub invariant-branches : goal.invariant-branches
invariant-branches l = else_of l.branches.items (Some l.otherwise) ≡ else_of l.fn.branches l.fn.last

abbrev pub decreases-branches : goal.decreases-branches
decreases-branches l = length l.branches.items
