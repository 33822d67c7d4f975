-- Inputs and sinks that never fail have no fault.
use Rattle.marple_laws.proofs.Words.{inl, inr, arith}
use Rattle.marple_base.specs.{Faults.Rose, Sound.sound_input, declared.inputs.Which.{Which, TheVariants.{Query, Trace}}}
use Rattle.marple_base.specs.declared.sound.SoundInputs.{SoundInputs}

pub never_rose : Rose 0 0 → ⊥
never_rose (inl less) = omega arith
never_rose (inr last) = omega arith

pub no_input_fault : (before after : SoundInputs) (which : Which) → Rose (sound_input before which).faults (sound_input after which).faults
    → ⊥
no_input_fault before after Query = never_rose
no_input_fault before after Trace = never_rose
