use Rattle.marple_laws.proofs.OneReading.{read_once}
use Rattle.marple_laws.proofs.readings.texts_are_read_once.Goals as goal

pub returns : goal.returns
returns c = read_once
