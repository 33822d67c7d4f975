use Rattle.marple_laws.proofs.NoFaults.{never_rose}
use Rattle.marple_laws.proofs.sound.into_a_sound_sink.Goals as goal

pub returns : goal.returns
returns g c e = never_rose (c.marple.ensures.output_fault e)
