use Rattle.net_laws.proofs.Fields.{keys_are}
use Rattle.net_laws.proofs.field_keys.keys_are_fields.Goals as goal

pub returns : goal.returns
returns c = keys_are
