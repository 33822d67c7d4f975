use Rattle.part_laws.proofs.Fields.{fields_keep, field_lists_keep, field_lists_give}
use Rattle.part_laws.proofs.laws.fields_keep_keys.Goals as goal

pub returns : goal.returns
returns c = record { one = fields_keep; several = field_lists_keep; parts = field_lists_give }
