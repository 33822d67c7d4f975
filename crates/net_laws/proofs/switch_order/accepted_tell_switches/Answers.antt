use Rattle.marple_base.specs.declared.field.Field.TheVariants.{Switch}
use Rattle.query_laws.proofs.{QueryLaws.query_sound, Valid.parts}
use Rattle.net_laws.proofs.switch_order.accepted_tell_switches.Goals as goal

pub returns : goal.returns
returns c = λ text q e.
    let p = parts _ q e in
    assumption (c.keys_are_fields.ensures p.0 q Switch (query_sound p.0 q p.2), c.accepted_start_as_words.ensures text q e)
