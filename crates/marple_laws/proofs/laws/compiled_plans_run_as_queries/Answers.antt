use Rattle.marple_laws.proofs.Compiled.{run_alike}
use Rattle.marple_laws.proofs.laws.compiled_plans_run_as_queries.Goals as goal

pub returns : goal.returns
returns c = run_alike c.no_views_without_number.ensures c.read_packets_are_whole.ensures
