use Rattle.std.{proofs.Common.{◌≡◌, ◌≤◌, length, take}, specs.Prelude.filter}
use Rattle.marple_base.specs.Field.{all_fields, has_field}
use Rattle.trace_split.proofs.splitting.fields_in.Given as goal

-- those of the first fields that are in the set
abbrev pub invariant-loop-field : goal.invariant-loop-field
invariant-loop-field l = record {
  list : l.list.items ≡ filter (has_field l.fields) (take l.field-index all_fields);
  few : length l.list.items ≤ l.field-index;
}
