use Rattle.std.proofs.Common.{◌≡◌, drop}
use Rattle.net_laws.specs.Fields.{makes_field}
use Rattle.net_laws.proofs.field_names.makes_field.Given as goal

abbrev pub invariant-loop-one : goal.invariant-loop-one
invariant-loop-one l = makes_field l.field l.names (drop l.one-index l.streams) ≡ makes_field l.field l.names l.streams
