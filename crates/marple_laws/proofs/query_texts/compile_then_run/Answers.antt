use Rattle.marple_laws.proofs.Loads.{loads}
use Rattle.marple_laws.proofs.query_texts.compile_then_run.Goals as goal

pub returns : goal.returns
returns c = loads c.args.q.now _ c.requires.valid c.requires.text c.requires.plan c.invariant.ensures c.requires.no_finals
