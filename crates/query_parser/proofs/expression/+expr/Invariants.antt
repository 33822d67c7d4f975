-- What is read of a level or a list and what is left make the whole, and reading goes to a closer level or a bracket less.
use Rattle.std.proofs.Common.{◌≡◌, ℕ, ◌+◌, ◌*◌, ◌-◌, [], ◌∷◌, length}
use Rattle.query_lang.specs.declared.token.Mark.TheVariants as marks
use Rattle.query_grammar.specs.{Grammar.grouped, Kinds.{among, kinds_of, sign}, Parser.{Limited, turns}}
use Rattle.query_grammar.specs.Reading.{after, separated, expr_at}
use Rattle.query_parser.specs.declared.operators.Level.{Level}
use Rattle.query_parser.specs.declared.operators.Level.TheVariants as levels
use Rattle.query_parser.{specs.Reads.{ops_of, operation_of, level_of, primary_at}, proofs.Loops.{finished, later}}
use Rattle.query_parser.proofs.expression.+expr.Given as goal

-- a level calls those that bind closer
abbrev pub rank : Level → ℕ
rank levels.Product = 1
rank levels.Sum = 2
rank levels.Shift = 3
rank levels.And = 4
rank levels.Xor = 5
rank levels.Or = 6
rank levels.Comparison = 7
rank levels.Both = 8
rank levels.Either = 9

abbrev pub decreases-bracketed : goal.decreases-bracketed
decreases-bracketed l = 50 * l.brackets

abbrev pub decreases-arguments : goal.decreases-arguments
decreases-arguments l = 50 * l.brackets

abbrev pub decreases-call : goal.decreases-call
decreases-call l = 50 * l.brackets + 1

abbrev pub decreases-primary : goal.decreases-primary
decreases-primary l = 50 * l.brackets + 2

abbrev pub decreases-unary : goal.decreases-unary
decreases-unary l = 50 * l.brackets + 3

abbrev pub decreases-operand : goal.decreases-operand
decreases-operand l = 50 * l.brackets + 4 * rank l.of

abbrev pub decreases-operation : goal.decreases-operation
decreases-operation l = 50 * l.brackets + 4 * rank l.of + 1

abbrev pub decreases-level : goal.decreases-level
decreases-level l = 50 * l.brackets + 4 * rank l.of + 2

abbrev pub decreases-comparison : goal.decreases-comparison
decreases-comparison l = 50 * l.brackets + 30

abbrev pub decreases-expression : goal.decreases-expression
decreases-expression l = 50 * l.brackets + 39

abbrev pub decreases-next_expression : goal.decreases-next_expression
decreases-next_expression l = 50 * l.brackets + 40

abbrev pub decreases-expressions : goal.decreases-expressions
decreases-expressions l = 50 * l.brackets + 41

abbrev pub decreases-listed : goal.decreases-listed
decreases-listed l = 50 * l.brackets + 42

-- what is read so far, and what is left to read, give the whole
abbrev pub invariant-level-operations : goal.invariant-level-operations
invariant-level-operations l =
    finished (grouped l.left) (turns (length l.initial.reader.rest.now - l.counter) (among (kinds_of (ops_of l.of)))
    (operation_of l.of (primary_at l.brackets)) l.reader.counts l.reader.rest.now)
    ≡ level_of l.of (primary_at l.brackets) l.fn.reader.counts l.fn.reader.rest.now

abbrev pub invariant-expressions-expressions : goal.invariant-expressions-expressions
invariant-expressions-expressions l =
    finished (later l.found) (turns (length l.initial.reader.rest.now - l.counter) (among (30 ∷ []))
    (after Limited (sign marks.Comma) (expr_at Limited l.brackets)) l.reader.counts l.reader.rest.now)
    ≡ separated Limited (expr_at Limited l.brackets) l.fn.reader.counts l.fn.reader.rest.now
