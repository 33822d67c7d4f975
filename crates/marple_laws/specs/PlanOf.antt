-- A plan of each query, by definitions alone.
use Rattle.std.specs.Prelude.{ℕ, List, map, filter_map, slice_get, Option, None, option_map}
use Rattle.query_lang.specs.declared.{fold.TypedFold.TypedFold, typed.TypedOp.{TypedOp, TheVariants.{Filter, Map, Zip, Group}}}
use Rattle.query_lang.specs.{declared.typed.{TypedQuery.TypedQuery, TypedStream.TypedStream}, Folds.{fold_states, fold_args, initial_state}}
use Rattle.fold_code.specs.{Code.fold_instrs, Meaning.Code}
use Rattle.fold_class.specs.{declared.{layout.Layout.Layout, program.FoldProgram.FoldProgram}, Depth.depth_of, Kinds.{class_of, algebra_of}}
use Rattle.fold_class.specs.{Program.origins_of, Rows.Rows, Step.{linear_places, history_places}, Translations.is_translation}
use Rattle.stage_plan.specs.{declared.group.GroupPlan.GroupPlan, Fields.reads_of, Shape.text_at, Sound.PlanParts}
use Rattle.plan_writer.specs.Ordered.{query_ops, query_wiring}

abbrev pub code_of : TypedFold → Code
code_of f = record { instrs = fold_instrs f; states = fold_states f; args = fold_args f }

abbrev pub rows_of : TypedFold → Rows
rows_of f = record {
  code = code_of f;
  algebra = algebra_of f;
  origins = origins_of f;
  linear = linear_places f;
  history = history_places f;
}

abbrev pub layout_of : TypedFold → Layout
layout_of f = record {
  linear = linear_places f;
  history = history_places f;
  initial = initial_state f;
  args = fold_args f;
  nodes = f.nodes;
  statements = f.statements;
}

-- the program of a fold
abbrev pub program_of : TypedFold → FoldProgram
program_of f = record {
  class = class_of f;
  algebra = algebra_of f;
  moves = is_translation f;
  depth = depth_of f;
  code = code_of f;
  rows = rows_of f;
  layout = layout_of f;
}

-- a groupby of a stream with the program of its fold
abbrev pub group_with : List (List ℕ) → TypedStream → TypedFold → GroupPlan
group_with names one f = record {
  name = text_at names one.name.id;
  key_names = map (text_at names) one.columns;
  state_names = map (text_at names) f.state_names;
  program = program_of f;
}

-- the groupby of a stream, where its operator is one
abbrev pub group_planned : List (List ℕ) → List TypedFold → TypedStream → TypedOp → Option GroupPlan
group_planned names folds one (Filter input condition) = None
group_planned names folds one (Map input values) = None
group_planned names folds one (Zip left right slots) = None
group_planned names folds one (Group input keys f args) = option_map (group_with names one) (slice_get folds f)

-- the groupbys of streams, in order
abbrev pub groups_planned : List (List ℕ) → List TypedFold → List TypedStream → List GroupPlan
groups_planned names folds streams = filter_map (λ one. group_planned names folds one one.op) streams

-- A plan of a query.
abbrev pub plan_of : TypedQuery → PlanParts
plan_of q = record {
  reads = reads_of q;
  ops = query_ops q;
  groups = groups_planned q.names q.folds q.streams;
  wiring = query_wiring q;
}
