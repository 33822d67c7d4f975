use Rattle.marple_laws.proofs.TrialTexts.{run_over_texts}
use Rattle.marple_laws.proofs.trial_runs.trials_run_over_texts.Goals as goal

pub returns : goal.returns
returns c = run_over_texts
