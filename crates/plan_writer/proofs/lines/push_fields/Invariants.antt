use Rattle.std.{proofs.Common.{◌≡◌, ◌++◌, take}, specs.Prelude.{map, filter}}
use Rattle.marple_base.specs.Field.{field_name, has_field}
use Rattle.plan_writer.specs.Words.{spaced}
use Rattle.plan_writer.proofs.lines.push_fields.Given as goal

abbrev pub invariant-loop-f : goal.invariant-loop-f
invariant-loop-f l = l.text ≡ l.initial.text ++ spaced (map field_name (filter (has_field l.reads) (take l.f-index l.fields)))
