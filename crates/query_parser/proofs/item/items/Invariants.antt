use Rattle.std.proofs.Common.{◌≡◌, ◌-◌, length}
use Rattle.query_grammar.specs.{Kinds.among, Parser.{Limited, turns, repeated}, Reading.{item, item_starts, expr_at, stmt_at}}
use Rattle.query_parser.proofs.Loops.{finished, later}
use Rattle.query_parser.proofs.item.items.Given as goal

-- what is read so far, and what is left to read, give the whole
abbrev pub invariant-items : goal.invariant-items
invariant-items l =
    finished (later l.found) (turns (length l.fn.reader.rest.now - l.counter) (among item_starts)
    (item Limited (stmt_at Limited 63) (expr_at Limited 63) (expr_at Limited 62)) l.reader.counts l.reader.rest.now)
    ≡ repeated (among item_starts) (item Limited (stmt_at Limited 63) (expr_at Limited 63) (expr_at Limited 62))
    l.fn.reader.counts l.fn.reader.rest.now
