use Rattle.marple_laws.proofs.FieldSets.{one_reading}
use Rattle.marple_laws.proofs.query_texts.written_plan_reads_as_the_query.Goals as goal

pub returns : goal.returns
returns c = one_reading c.args.q.now
