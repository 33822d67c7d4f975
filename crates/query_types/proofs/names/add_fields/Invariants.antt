use Rattle.std.proofs.Common.{◌≡◌, ◌+◌, ◌≤◌, drop, length}
use Rattle.query_lang.specs.Typing.{with_fields}
use Rattle.query_types.proofs.names.add_fields.Given as goal

abbrev pub invariant-loop-field : goal.invariant-loop-field
invariant-loop-field l = record {
  named : with_fields l.all (drop l.field-index l.fields) ≡ with_fields l.fn.names l.fields;
  room : length l.all ≤ length l.fn.names + l.field-index;
}
