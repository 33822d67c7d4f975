use Rattle.std.{proofs.Common.{◌≡◌, ◌++◌, take}, specs.Prelude.map}
use Rattle.query_lang.specs.declared.typing.Origin.TheVariants as origin
use Rattle.query_facts.proofs.columns.push_fields.Given as goal

abbrev pub invariant-loop-field : goal.invariant-loop-field
invariant-loop-field l = l.into ≡ l.initial.into ++ map (λ _. origin.Field) (take l._field-index l.fields)
