use Rattle.std.proofs.Common.{◌≡◌, ◌-◌, [], ◌∷◌, length}
use Rattle.query_lang.specs.declared.token.Mark.TheVariants as marks
use Rattle.query_grammar.specs.{Kinds.{among, sign}, Parser.{Limited, turns}, Reading.{after, separated}}
use Rattle.query_parser.proofs.Loops.{finished, later}
use Rattle.query_parser.proofs.parts.separated.Given as goal

-- what is read so far, and what is left to read, give the whole
abbrev pub invariant-parts : goal.invariant-parts
invariant-parts g l =
    finished (later l.found) (turns (length l.initial.reader.rest.now - l.counter) (among (30 ∷ []))
    (after Limited (sign marks.Comma) g.P.Part.parser) l.reader.counts l.reader.rest.now)
    ≡ separated Limited g.P.Part.parser l.fn.reader.counts l.fn.reader.rest.now
