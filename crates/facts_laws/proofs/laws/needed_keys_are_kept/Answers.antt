use Rattle.facts_laws.proofs.KeptKeys.{needed_keys_are_kept_lem}
use Rattle.facts_laws.proofs.laws.needed_keys_are_kept.Goals as goal

pub returns : goal.returns
returns c = needed_keys_are_kept_lem c.accepted_fields_keep_keys.ensures
