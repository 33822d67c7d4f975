use Rattle.part_laws.proofs.Words.{sym, ◌∙◌, query_sound, parts, by_fields}
use Rattle.part_laws.proofs.accepted.accepted_tables_are_in_order.Goals as goal

pub returns : goal.returns
returns c = λ text q i fields choose e all one at packets list whole the f g caches exact.
    let p = parts text q e in
    let gives = c.fields_keep_keys.ensures.parts p.0 q i fields choose _ (query_sound _ q p.2) all at in
    let ordered = c.exact_tables_are_in_order.ensures (by_fields fields choose) q i gives.0 packets list whole the f g caches exact in
    record { all = ordered.all; placed = λ n k d lt. sym (gives.1 _) ∙ ordered.placed n k d lt }
