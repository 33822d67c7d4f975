use Rattle.std.proofs.Common.{List, ap, sym, ◌∙◌}
use Rattle.query_lang.specs.declared.fault.Span.{Span}
use Rattle.query_grammar.specs.Grammar.{negated}
use Rattle.query_parser.proofs.Loops.{negated_more}
use Rattle.query_parser.proofs.expression.negated.Goals as goal

pub bangs-preserved : goal.bangs-preserved
bangs-preserved c = rw c.in_ok-inner.ensures (sym (negated_more c.pop.new.self.items c.in-Some.span c.bangs.inner)
    ∙ sym (ap (λ (spans : List Span). negated spans c.bangs.inner) c.in-Some.ensures.items) ∙ c.bangs.invariant)
