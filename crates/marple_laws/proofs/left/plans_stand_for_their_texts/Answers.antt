use Rattle.marple_laws.proofs.TextEnds.{stand_for_texts}
use Rattle.marple_laws.proofs.left.plans_stand_for_their_texts.Goals as goal

pub returns : goal.returns
returns c = stand_for_texts
