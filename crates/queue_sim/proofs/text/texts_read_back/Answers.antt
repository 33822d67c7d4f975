use Rattle.queue_sim.proofs.ReadBackFacts.{texts_read_back_lem}
use Rattle.queue_sim.proofs.text.texts_read_back.Goals as goal

pub returns : goal.returns
returns c = texts_read_back_lem
