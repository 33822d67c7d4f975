-- The text of a query's plan.
use Rattle.std.specs.Prelude.{ℕ, List, [], ◌∷◌, ◌++◌, length, map, flat_map, filter, codes, decimal, slice_get, Option, Some, None}
use Rattle.std.specs.List.{range_with_len}
use Rattle.marple_base.specs.{declared.field.{Field.Field, FieldSet.FieldSet}, Field.{all_fields, field_name, has_field}}
use Rattle.query_lang.specs.declared.{fault.{FaultKind.TheVariants.FinalInPlan, QueryFault.QueryFault}, fold.TypedFold.TypedFold}
use Rattle.query_lang.specs.declared.typed.PrintOf.{PrintOf}
use Rattle.query_lang.specs.declared.typed.PrintOf.TheVariants as printed
use Rattle.query_lang.specs.{declared.typed.{TypedFinal.TypedFinal, TypedQuery.TypedQuery}, Folds.fold_block, Streams.takings}
use Rattle.stage_plan.specs.{declared.{op.PlanOp.PlanOp, group.GroupWiring.GroupWiring}, Fields.reads_of, Planned.fold_at}
use Rattle.stage_plan.specs.Shape.{GroupShape, class_word, query_groups}
use Rattle.plan_writer.specs.{Words.{line, operand_word, operation_words, block_words}, Ordered.{query_ops, query_wiring}}

-- the fields of a set, in their order
abbrev pub fields_of : FieldSet → List Field
fields_of reads = filter (has_field reads) all_fields

abbrev pub reads_line : FieldSet → List ℕ
reads_line reads = line (codes "reads") (map field_name (fields_of reads))

-- `op STAGE FN A B`
abbrev pub op_line : PlanOp → List ℕ
op_line one = line (codes "op") (decimal one.stage ∷ operation_words one.op one.left one.right)

-- a line for each of these names, with a first word, the name, and a last word
abbrev pub named_lines : List ℕ → List (List ℕ) → List (List ℕ) → List ℕ
named_lines word (name ∷ names) (last ∷ lasts) = line word (name ∷ last ∷ []) ++ named_lines word names lasts
named_lines word _ _ = []

-- The lines of a groupby: its name and its presence, its keys, its fold's arguments, the state variables, the fold's
-- statements, and its class and depth with the bounds on its nodes and statements.
abbrev pub group_lines : GroupShape → GroupWiring → TypedFold → List ℕ
group_lines shape wiring f =
    line (codes "group") (shape.name ∷ operand_word wiring.present ∷ [])
    ++ (named_lines (codes "key") shape.key_names (map operand_word wiring.keys)
    ++ (flat_map (λ a. line (codes "arg") (operand_word a ∷ [])) wiring.args
    ++ (named_lines (codes "state") shape.state_names (map decimal f.initial)
    ++ (line (codes "body") (block_words (length f.state_names) (fold_block f))
    ++ line (codes "fold") (class_word shape.class ∷ decimal shape.depth ∷ decimal shape.nodes ∷ decimal shape.statements ∷ [])))))

-- the lines of a groupby that has all its parts
abbrev pub group_lines_of : Option GroupShape → Option GroupWiring → Option TypedFold → List ℕ
group_lines_of (Some shape) (Some wiring) (Some f) = group_lines shape wiring f
group_lines_of _ _ _ = []

-- the lines of the query's groupby with this number
abbrev pub group_text : TypedQuery → ℕ → List ℕ
group_text q i = group_lines_of (slice_get (query_groups q) i) (slice_get (query_wiring q) i) (fold_at q i)

-- `print I` for a groupby; a final has no line
abbrev pub print_line : PrintOf → List ℕ
print_line (printed.Group i) = line (codes "print") (decimal i ∷ [])
print_line (printed.Final i) = []

-- The text of a query's plan: the fields that it reads, its operations in ascending stage, its groupbys, and which of them are printed.
unfoldable pub compiled_text : TypedQuery → List ℕ
compiled_text q =
    line (codes "marple-plan") (codes "1" ∷ [])
    ++ (reads_line (reads_of q)
    ++ (flat_map op_line (query_ops q)
    ++ (flat_map (group_text q) (range_with_len 0 (length (takings q.streams)))
    ++ flat_map print_line q.prints)))

-- a plan's text has no finals, and is refused at the name of the first one
abbrev pub first_final : List TypedFinal → Option QueryFault
first_final [] = None
first_final (one ∷ rest) = Some (record { kind = FinalInPlan; span = one.name.span })

abbrev pub final_fault : TypedQuery → Option QueryFault
final_fault q = first_final q.finals
