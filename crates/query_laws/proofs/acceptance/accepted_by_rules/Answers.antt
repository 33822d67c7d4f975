use Rattle.query_laws.proofs.Accepted.{accepted_sound, accepted_complete}
use Rattle.query_laws.proofs.acceptance.accepted_by_rules.Goals as goal

pub returns : goal.returns
returns c = λ text t. (λ e. accepted_sound _ t e, λ h. accepted_complete h)
