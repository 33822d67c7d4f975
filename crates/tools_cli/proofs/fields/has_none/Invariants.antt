use Rattle.std.{proofs.Common.{◌≡◌, [], take}, specs.Prelude.filter}
use Rattle.marple_base.specs.Field.{all_fields, has_field}
use Rattle.tools_cli.proofs.fields.has_none.Given as goal

-- none of the first fields is in the set
abbrev pub invariant-loop-field : goal.invariant-loop-field
invariant-loop-field l = record { none : filter (has_field l.fields) (take l.field-index all_fields) ≡ [] }
