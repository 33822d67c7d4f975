use Rattle.std.proofs.Common.{◌∷◌, sym, ap, ◌∙◌}
use Rattle.plan_file.proofs.NamedFacts.{two_more}
use Rattle.plan_file.proofs.named.two_tokens.Goals as goal

pub returns-in-Some : goal.returns-in-Some
returns-in-Some c a b e =
    let both = c.in_ok-first.ensures.parts ∙ ap (λ ts. c.in_ok-first.first.now ∷ ts) c.in-Some.ensures.parts in
    two_more c.in_ok-first.first.now c.in-Some.field-0.0.now a b c.in-Some.field-0.1.now (sym both ∙ e)
