use Rattle.std.proofs.Common.{◌≡◌, ◌++◌, drop}
use Rattle.marple_base.specs.Field.{all_fields}
use Rattle.trace_drive.specs.Kept.{fields_among, fields_kept}
use Rattle.trace_drive.proofs.kept.fields_of.Given as goal

-- those so far, and then those of the rest
abbrev pub invariant-loop-field : goal.invariant-loop-field
invariant-loop-field l = fields_kept l.set ≡ l.fields.items ++ fields_among (drop l.field-index all_fields) l.set
