use Rattle.std.{proofs.Common.{◌≡◌, ◌<◌, ◌++◌, IfSome, drop, length}, specs.Option.option_to_list}
use Rattle.marple_base.specs.Field.{field_name}
use Rattle.trace_reader.specs.Traces.{columns_named}
use Rattle.trace_reader.proofs.record.only_column.Given as goal

-- those found, and then those of the rest
abbrev pub invariant-loop-i : goal.invariant-loop-i
invariant-loop-i l = record {
  named : columns_named (field_name l.field) 0 l.fn.header.fields
      ≡ option_to_list l.found ++ columns_named (field_name l.field) l.i (drop l.i l.fn.header.fields);
  within : IfSome l.found (λ column. column < length l.fn.header.fields);
}
