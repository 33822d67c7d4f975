use Rattle.marple_laws.proofs.Says.{text_says}
use Rattle.marple_laws.proofs.query_texts.written_plan_is_valid.Goals as goal

pub returns : goal.returns
returns c = text_says c.args.q.now c.args.p.now c.requires.valid c.requires.text c.requires.plan c.invariant.ensures
