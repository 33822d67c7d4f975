use Rattle.marple_laws.proofs.TextReadings.{every_text}
use Rattle.marple_laws.proofs.readings.every_text_is_read.Goals as goal

pub returns : goal.returns
returns c = every_text
