use Rattle.accepted_query.proofs.TrialAccepted.{trial_accepted}
use Rattle.accepted_query.proofs.trial.trial_is_accepted.Goals as goal

pub returns : goal.returns
returns c = trial_accepted
