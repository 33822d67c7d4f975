-- A group with what its line `fold` says of it.
use Rattle.plan_file.specs.declared.{fold_line.Said.Said, made.{Folded.Folded, Group.Group}}

abbrev pub folded_as : Group → Said → Folded
folded_as group said = record {
  group = group;
  class = said.class;
  depth = said.depth;
  nodes = said.nodes;
  statements = said.statements;
}
