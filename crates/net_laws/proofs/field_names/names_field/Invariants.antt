use Rattle.std.proofs.Common.{◌≡◌, drop}
use Rattle.net_laws.specs.Fields.{names_field}
use Rattle.net_laws.proofs.field_names.names_field.Given as goal

abbrev pub invariant-loop-id : goal.invariant-loop-id
invariant-loop-id l = names_field l.field l.names (drop l.id-index l.columns) ≡ names_field l.field l.names l.columns
