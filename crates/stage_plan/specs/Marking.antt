-- The fields that are named, in turn.
use Rattle.std.specs.Prelude.{ℕ, List, fold, Some, None}
use Rattle.marple_base.specs.{declared.field.FieldSet.FieldSet, Field.with_field}
use Rattle.query_lang.specs.declared.typed.TypedOp.{TypedOp, TheVariants.{Filter, Map, Zip, Group}}
use Rattle.query_lang.specs.Terms.{Term, Literal, Read, Negation, Operation, term_of}
use Rattle.stage_plan.specs.Fields.{FieldSource, source_at, sources_at}

-- a column is named
abbrev pub marked : FieldSet → FieldSource → FieldSet
marked fields None = fields
marked fields (Some f) = with_field fields f

abbrev pub marked_slots : List FieldSource → FieldSet → List ℕ → FieldSet
marked_slots columns fields slots = fold (λ all slot. marked all (source_at columns slot)) fields slots

abbrev pub marked_term : List FieldSource → FieldSet → Term → FieldSet
marked_term columns fields (Literal n) = fields
marked_term columns fields (Read s) = marked fields (source_at columns s)
marked_term columns fields (Negation e) = marked_term columns fields e
marked_term columns fields (Operation op a b) = marked_term columns (marked_term columns fields a) b

abbrev pub marked_op : List (List FieldSource) → FieldSet → TypedOp → FieldSet
marked_op streams fields (Filter input condition) = marked_term (sources_at streams input) fields (term_of condition)
marked_op streams fields (Map input values) = fold (λ all e. marked_term (sources_at streams input) all (term_of e)) fields values
marked_op streams fields (Zip left right slots) = fields
marked_op streams fields (Group input keys f args) =
    marked_slots (sources_at streams input) (marked_slots (sources_at streams input) fields keys) args
