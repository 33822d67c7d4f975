use Rattle.split_fields.proofs.KeyFacts.{by_hash_keeps_keys_lem}
use Rattle.split_fields.proofs.laws.by_hash_keeps_keys.Goals as goal

pub returns : goal.returns
returns c = by_hash_keeps_keys_lem c.accepted_fields_keep_keys.ensures
