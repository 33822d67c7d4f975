use Rattle.part_laws.proofs.Words.{query_sound, parts}
use Rattle.part_laws.proofs.accepted.accepted_fields_keep_keys.Goals as goal

pub returns : goal.returns
returns c = λ text q i fields choose e all.
    let p = parts text q e in
    c.fields_keep_keys.ensures.several _ q i _ choose (query_sound p.0 q p.2) all
