-- What the text of a plan means, by what its lines make: the fields that it reads, what its groups take of packets,
-- their folds and tables, and what it prints.
use Rattle.std.specs.Prelude.{ℕ, List, [], length, map, replicate, flat_map, Option, None, unwrap_or}
use Rattle.marple_base.specs.{declared.field.FieldSet.FieldSet, Field.field_set}
use Rattle.query_lang.specs.{Blocks.Block, declared.fold.TypedFold.TypedFold}
use Rattle.epoch_model.specs.{Driving.{Taken, uses_taken}, Epochs.{Geometry, Use}}
use Rattle.epoch_entry.specs.Foldings.{folding_of}
use Rattle.fold_class.specs.Kinds.{algebra_of}
use Rattle.final_queries.specs.{declared.table.Table.Table, GroupTable.{Heading, group_table}}
use Rattle.query_tables.specs.Tables.{heading_of_shape, table_text_at}
use Rattle.stage_plan.specs.{declared.group.GroupWiring.GroupWiring, Registers.{registers_after, stages_of, taken_at}}
use Rattle.stage_plan.specs.Shape.{GroupShape, PlanShape, bound_of, sizes_of}
use Rattle.plan_file.specs.declared.made.{Folded.Folded, Group.Group, Made.Made}
use Rattle.plan_loader.specs.Reading.{block_written, stmts_for}

-- the fields that the `reads` line names
abbrev pub reads_in : Made → FieldSet
reads_in made = field_set (unwrap_or made.reads [])

-- the statements of a group's body
abbrev pub block_in : Group → Block
block_in group = block_written (length group.initial) (unwrap_or group.body [])

-- The fold of a group: its body over its state variables and arguments, from the numbers of its `state` lines. A plan
-- has no names of arguments, and the fold's own name and those of its variables say nothing here.
abbrev pub fold_in : Folded → TypedFold
fold_in one = record {
  name = record { id = 0; span = record { start = 0; end = 0 } };
  state_names = replicate (length one.group.initial) 0;
  initial = one.group.initial;
  arg_names = replicate (length one.group.args) 0;
  body = stmts_for (block_in one.group);
  emit = None;
  nodes = one.nodes;
  statements = one.statements;
}

-- what a group takes of the registers
abbrev pub wiring_in : Folded → GroupWiring
wiring_in one = record { present = one.group.present; keys = one.group.keys; args = one.group.args }

-- what a group takes of a packet with these words: nothing where its presence operand is 0
abbrev pub taken_in : Made → Folded → List ℕ → Option Taken
taken_in made one words = taken_at (wiring_in one) (registers_after made.ops words (stages_of made.ops))

-- what a group takes of packets, which have the numbers from 1 on
abbrev pub uses_in : Made → Folded → List (List ℕ) → List Use
uses_in made one packets = uses_taken 1 (map (taken_in made one) packets)

-- a group with the sizes that its lines give
abbrev pub shape_in : Folded → GroupShape
shape_in one = record {
  name = one.group.name;
  key_names = one.group.key_names;
  state_names = one.group.state_names;
  class = one.class;
  algebra = algebra_of (fold_in one);
  depth = one.depth;
  args = length one.group.args;
  nodes = one.nodes;
  statements = one.statements;
}

-- what the table of a group has beside its rows
abbrev pub heading_in : Folded → Heading
heading_in one = heading_of_shape (shape_in one)

-- the table of a group over packets
abbrev pub table_in : Made → Geometry → List (List ℕ) → Folded → Table
table_in made g packets one = group_table (heading_in one) (folding_of (fold_in one)) g (uses_in made one packets)

-- The tables of a plan's groups over packets, each with a word for each field.
unfoldable pub plan_tables : Made → Geometry → List (List ℕ) → List Table
plan_tables made g packets = map (table_in made g packets) made.groups

-- What a plan prints over packets: the texts of the tables that its `print` lines name, in their order.
unfoldable pub plan_output : Made → Geometry → List (List ℕ) → List ℕ
plan_output made g packets = flat_map (table_text_at (plan_tables made g packets)) made.prints

-- the sizes that a text gives
abbrev pub text_shape : Made → PlanShape
text_shape made = record {
  operations = length made.ops;
  stage_sizes = sizes_of (stages_of made.ops) (map (λ one. one.stage) made.ops);
  groups = map shape_in made.groups;
}

-- The most steps that one packet takes, with caches of this many ways.
abbrev pub text_bound : Made → ℕ → ℕ
text_bound made ways = bound_of ways (text_shape made)
