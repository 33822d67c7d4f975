use Rattle.marple_laws.proofs.NoFaults.{no_input_fault}
use Rattle.marple_laws.proofs.sound.over_sound_inputs.Goals as goal

pub returns : goal.returns
returns g c which e = no_input_fault c.args.inputs.now c.marple.new.inputs _ (c.marple.ensures.input_fault _ e).1
