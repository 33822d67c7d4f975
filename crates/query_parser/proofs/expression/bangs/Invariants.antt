use Rattle.std.proofs.Common.{◌≡◌, ◌-◌, [], ◌∷◌, length}
use Rattle.query_lang.specs.declared.token.Mark.TheVariants as marks
use Rattle.query_grammar.specs.{Kinds.{among, is, sign}, Language.Node, Parser.{Limited, turns, repeated, word}}
use Rattle.query_parser.proofs.Loops.{finished, later}
use Rattle.query_parser.proofs.expression.bangs.Given as goal

abbrev pub invariant-bangs : goal.invariant-bangs
invariant-bangs l =
    finished (later l.found) (turns (length l.fn.reader.rest.now - l.counter) (among (51 ∷ []))
    (word Limited Node (is (sign marks.Bang))) l.reader.counts l.reader.rest.now)
    ≡ repeated (among (51 ∷ [])) (word Limited Node (is (sign marks.Bang))) l.fn.reader.counts l.fn.reader.rest.now
