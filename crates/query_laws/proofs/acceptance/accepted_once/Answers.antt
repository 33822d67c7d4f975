use Rattle.query_laws.proofs.Accepted as lemmas
use Rattle.query_laws.proofs.acceptance.accepted_once.Goals as goal

pub returns : goal.returns
returns c = λ text t u h k. lemmas.accepted_once h k
