use Rattle.marple_laws.proofs.Runs.{one_output}
use Rattle.marple_laws.proofs.query_texts.written_plan_runs_as_the_query.Goals as goal

pub returns : goal.returns
returns c = λ g packets whole. one_output c.args.q.now c.args.p.now c.requires.valid c.requires.plan c.invariant.ensures g packets whole
    c.requires.no_finals
