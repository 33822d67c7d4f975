use Rattle.marple_laws.proofs.TrialsAsRuns.{trials_are_runs}
use Rattle.marple_laws.proofs.laws.trials_write_what_runs_write.Goals as goal

pub returns : goal.returns
returns c = trials_are_runs c.trials_run_over_texts.ensures c.no_views_without_number.ensures c.trial_is_accepted.ensures
