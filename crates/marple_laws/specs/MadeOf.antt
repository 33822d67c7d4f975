-- What the lines of a query's plan make.
use Rattle.std.specs.{Prelude.{ℕ, true, List, [], ◌∷◌, length, flat_map, slice_get, Option, Some, None}, List.range_with_len}
use Rattle.query_lang.specs.declared.{fold.TypedFold.TypedFold, typed.PrintOf.PrintOf}
use Rattle.query_lang.specs.declared.typed.PrintOf.TheVariants as printed
use Rattle.query_lang.specs.{declared.typed.TypedQuery.TypedQuery, Folds.fold_block, Streams.takings}
use Rattle.stage_plan.specs.{declared.group.GroupWiring.GroupWiring, Fields.reads_of, Planned.fold_at, Shape.{GroupShape, query_groups}}
use Rattle.plan_file.specs.{Groups.group_with, declared.made.{Folded.Folded, Made.Made}, Bodies.written_block}
use Rattle.plan_writer.specs.{Ordered.{query_ops, query_wiring}, PlanText.fields_of}

-- a groupby as its lines make it
abbrev pub folded_with : GroupShape → GroupWiring → TypedFold → Folded
folded_with shape wiring f = record {
  group = record (group_with shape.name wiring.present) {
    key_names = shape.key_names;
    keys = wiring.keys;
    args = wiring.args;
    state_names = shape.state_names;
    initial = f.initial;
    body = Some (written_block (length f.state_names) (fold_block f));
  };
  class = shape.class;
  depth = shape.depth;
  nodes = shape.nodes;
  statements = shape.statements;
}

-- a groupby that has all its parts
abbrev pub folded_of : Option GroupShape → Option GroupWiring → Option TypedFold → List Folded
folded_of (Some shape) (Some wiring) (Some f) = folded_with shape wiring f ∷ []
folded_of _ _ _ = []

-- the query's groupby with this number
abbrev pub group_made : TypedQuery → ℕ → List Folded
group_made q i = folded_of (slice_get (query_groups q) i) (slice_get (query_wiring q) i) (fold_at q i)

-- the number of a printed groupby
abbrev pub printed_group : PrintOf → List ℕ
printed_group (printed.Group i) = i ∷ []
printed_group (printed.Final i) = []

-- The fields, operations, groupbys and prints of a query's plan.
abbrev pub made_of : TypedQuery → Made
made_of q = record {
  begun = true;
  reads = Some (fields_of (reads_of q));
  ops = query_ops q;
  groups = flat_map (group_made q) (range_with_len 0 (length (takings q.streams)));
  current = None;
  prints = flat_map printed_group q.prints;
}
