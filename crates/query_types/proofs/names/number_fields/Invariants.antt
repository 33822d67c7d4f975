use Rattle.std.proofs.Common.{◌≡◌, ◌++◌, map, drop}
use Rattle.marple_base.specs.Field.{field_name}
use Rattle.query_lang.specs.Names.{number_in}
use Rattle.query_types.proofs.names.number_fields.Given as goal

abbrev pub invariant-loop-field : goal.invariant-loop-field
invariant-loop-field l = l.numbers ++ map (λ f. number_in l.names (field_name f)) (drop l.field-index l.fields)
    ≡ map (λ f. number_in l.names (field_name f)) l.fields
