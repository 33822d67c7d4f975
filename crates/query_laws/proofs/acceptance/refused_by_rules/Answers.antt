use Rattle.query_laws.proofs.Accepted.{refused}
use Rattle.query_laws.proofs.acceptance.refused_by_rules.Goals as goal

pub returns : goal.returns
returns c = λ text fault e. refused e
