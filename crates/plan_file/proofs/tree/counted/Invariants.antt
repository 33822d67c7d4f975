use Rattle.std.{proofs.Common.{◌≡◌, ◌≤◌, take}, specs.Prelude.count_by}
use Rattle.plan_file.specs.Trees.{is_set, is_if, is_node}
use Rattle.plan_file.proofs.tree.counted.Given as goal

abbrev pub invariant-loop-word : goal.invariant-loop-word
invariant-loop-word l = record {
  sets : l.sets ≡ count_by is_set (take l.word-index l.words);
  ifs : l.ifs ≡ count_by is_if (take l.word-index l.words);
  nodes : l.nodes ≡ count_by is_node (take l.word-index l.words);
  few_sets : l.sets ≤ l.word-index;
  few_ifs : l.ifs ≤ l.word-index;
  few_nodes : l.nodes ≤ l.word-index;
}
