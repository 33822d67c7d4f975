use Rattle.std.proofs.Common.{sym, ◌∙◌}
use Rattle.plan_file.proofs.NamedFacts.{one_more}
use Rattle.plan_file.proofs.named.one_token.Goals as goal

pub returns-in-Some : goal.returns-in-Some
returns-in-Some c a e = one_more c.in-Some.field-0.0.now a c.in-Some.field-0.1.now (sym c.in-Some.ensures.parts ∙ e)
