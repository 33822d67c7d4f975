use Rattle.part_laws.proofs.Words.{KeepsKeys, by_fields}
use Rattle.part_laws.proofs.accepted.accepted_tables_join.Goals as goal

pub returns : goal.returns
returns c = λ text q i fields choose e all.
    let kept : KeepsKeys (by_fields fields choose) q i = c.accepted_fields_keep_keys.ensures text q i fields choose e all in (
      kept.part_of,
      λ packets parts whole the f g caches one.
          c.exact_rows_are_the_parts.ensures.tables (by_fields fields choose) q i kept packets parts whole the f g caches one,
    )
