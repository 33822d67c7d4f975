use Rattle.std.proofs.Common.{◌≡◌, ◌+◌, ◌*◌, drop, sum_by}
use Rattle.query_lang.specs.TypedFolds.{stmt_nodes, stmt_count}
use Rattle.query_types.proofs.folds.+counts.Given as goal

abbrev pub decreases-count_statement : goal.decreases-count_statement
decreases-count_statement l = 2 * stmt_count l.s.now

abbrev pub decreases-count_block : goal.decreases-count_block
decreases-count_block l = 2 * sum_by stmt_count l.body.now + 1

abbrev pub invariant-count_block-loop-one : goal.invariant-count_block-loop-one
invariant-count_block-loop-one l = record {
  nodes : l.nodes + sum_by stmt_nodes (drop l.one-index l.body) ≡ sum_by stmt_nodes l.body;
  statements : l.statements + sum_by stmt_count (drop l.one-index l.body) ≡ sum_by stmt_count l.body;
}
