-- Sound inputs and a sound sink never rise in faults, so no call ends with a fault of theirs.
use Rattle.marple_laws.proofs.NoFaults.{never_rose, no_input_fault}
use Rattle.marple_laws.proofs.sound.sound_call.Goals as goal

pub returns-clause-input_fault : goal.returns-clause-input_fault
returns-clause-input_fault g c which e = no_input_fault c.args.inputs.now c.marple.new.inputs _ (c.marple.ensures.input_fault _ e).1

pub returns-clause-output_fault : goal.returns-clause-output_fault
returns-clause-output_fault g c e = never_rose (c.marple.ensures.output_fault e)

pub returns-clause-complete : goal.returns-clause-complete
returns-clause-complete g c command query trace asked holds accepted =
    c.marple.ensures.complete _ _ _ asked holds accepted (record {
      inputs = λ which takes. no_input_fault c.args.inputs.now c.marple.new.inputs _;
      out = never_rose;
    })
