-- What is read of a block or a chain and what is left make the whole, and a block within has a bracket less.
use Rattle.std.proofs.Common.{◌≡◌, ◌+◌, ◌*◌, ◌-◌, [], ◌∷◌, length}
use Rattle.query_grammar.specs.{Kinds.among, Parser.{Limited, turns, repeated, chain_turns, chained}, Reading.{stmt_at, stmt_starts}}
use Rattle.query_parser.{specs.Reads.else_part_at, proofs.{Loops.{finished, later}, Statements.chained_on}}
use Rattle.query_parser.proofs.statement.+stmt.Given as goal

abbrev pub decreases-block : goal.decreases-block
decreases-block l = 8 * l.brackets

abbrev pub decreases-if_part : goal.decreases-if_part
decreases-if_part l = 8 * l.brackets + 1

abbrev pub decreases-else_part : goal.decreases-else_part
decreases-else_part l = 8 * l.brackets + 2

abbrev pub decreases-else_parts : goal.decreases-else_parts
decreases-else_parts l = 8 * l.brackets + 3

abbrev pub decreases-if_statement : goal.decreases-if_statement
decreases-if_statement l = 8 * l.brackets + 4

abbrev pub decreases-statement : goal.decreases-statement
decreases-statement l = 8 * l.brackets + 5

abbrev pub decreases-statements : goal.decreases-statements
decreases-statements l = 8 * l.brackets + 6

abbrev pub decreases-block_within : goal.decreases-block_within
decreases-block_within l = 8 * l.brackets + 7

-- what is read so far, and what is left to read, give the whole
abbrev pub invariant-statements-statements : goal.invariant-statements-statements
invariant-statements-statements l =
    finished (later l.found) (turns (length l.initial.reader.rest.now - l.counter) (among stmt_starts)
    (stmt_at Limited l.brackets) l.reader.counts l.reader.rest.now)
    ≡ repeated (among stmt_starts) (stmt_at Limited l.brackets) l.fn.reader.counts l.fn.reader.rest.now

abbrev pub invariant-else_parts-parts : goal.invariant-else_parts-parts
invariant-else_parts-parts l =
    chained_on l.found (chain_turns (length l.initial.reader.rest.now - l.counter) (among (6 ∷ []))
    (else_part_at l.brackets) l.reader.counts l.reader.rest.now)
    ≡ chained (among (6 ∷ [])) (else_part_at l.brackets) l.fn.reader.counts l.fn.reader.rest.now
