use Rattle.std.{proofs.Common.{◌≡◌, drop}, specs.Prelude.fold}
use Rattle.marple_base.specs.Field.{with_field, field_set}
use Rattle.plan_loader.proofs.groups.set_of.Given as goal

-- the set so far with the fields still to come
abbrev pub invariant-loop-field : goal.invariant-loop-field
invariant-loop-field l = fold with_field l.set (drop l.field-index l.fields) ≡ field_set l.fields
