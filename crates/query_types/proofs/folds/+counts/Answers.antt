-- A statement counts for no more than its block, a block for no more than its choice, and what is left of a block is counted after it.
use Rattle.std.{proofs.{Common.{refl, arith}, lemmas.List.at_drop_all}, specs.Prelude.sum_by}
use Rattle.query_lang.specs.TypedFolds.{stmt_nodes, stmt_count}
use Rattle.query_types.proofs.CountSteps.{item_within, item_counted, item_fits, nodes_if, count_if}
use Rattle.query_types.proofs.folds.+counts.Goals as goal

pub count_block-count_statement-counts-requires : goal.count_block-count_statement-counts-requires
count_block-count_statement-counts-requires t c =
    let count = item_within stmt_count c.args.body.now c.loop-one.one-index c.loop-one-test.true c.one-item.is in
    let nodes = item_within stmt_nodes c.args.body.now c.loop-one.one-index c.loop-one-test.true c.one-item.is in (
      omega (arith, c.decreases),
      (omega (arith, c.requires.nodes), omega (arith, c.requires.statements)),
    )

pub count_block-loop-one-preserved : goal.count_block-loop-one-preserved
count_block-loop-one-preserved t c = record {
  nodes = item_counted stmt_nodes c.args.body.now c.loop-one.one-index _ c.loop-one-test.true c.one-item.is c.loop-one.invariant.nodes
      c.count_statement-counts.ensures.nodes;
  statements = item_counted stmt_count c.args.body.now c.loop-one.one-index _ c.loop-one-test.true c.one-item.is
      c.loop-one.invariant.statements c.count_statement-counts.ensures.statements;
}

pub count_block-returns : goal.count_block-returns
count_block-returns t c = record {
  nodes = omega (arith, at_drop_all (sum_by stmt_nodes) c.args.body.now c.loop-one.one-index c.loop-one-test.false);
  statements = omega (arith, at_drop_all (sum_by stmt_count) c.args.body.now c.loop-one.one-index c.loop-one-test.false);
}

pub count_statement-count_block-first-requires : goal.count_statement-count_block-first-requires
count_statement-count_block-first-requires t c =
    let count = count_if c.in-If.is c.as_slice.ensures refl in
    let nodes = nodes_if c.in-If.is c.as_slice.ensures refl in (
      omega (arith, c.decreases),
      (omega (arith, c.requires.nodes), omega (arith, c.requires.statements)),
    )

pub count_statement-count_block-second-requires : goal.count_statement-count_block-second-requires
count_statement-count_block-second-requires t c =
    let count = count_if c.in-If.is refl c.as_slice-in-If.ensures in
    let nodes = nodes_if c.in-If.is refl c.as_slice-in-If.ensures in (
      omega (arith, c.decreases),
      (omega (arith, c.requires.nodes), omega (arith, c.requires.statements)),
    )

pub count_statement-count_nodes-requires-in-If : goal.count_statement-count_nodes-requires-in-If
count_statement-count_nodes-requires-in-If t c = omega (arith, nodes_if c.in-If.is refl refl, c.requires.nodes)

pub count_statement-returns-in-If : goal.count_statement-returns-in-If
count_statement-returns-in-If t c = record {
  nodes = omega (arith, nodes_if c.in-If.is c.as_slice.ensures c.as_slice-in-If.ensures);
  statements = omega (arith, count_if c.in-If.is c.as_slice.ensures c.as_slice-in-If.ensures);
}

pub count_block-overflow_add-nodes : goal.count_block-overflow_add-nodes
count_block-overflow_add-nodes t c = omega (
  arith,
  item_fits stmt_nodes c.args.body.now c.loop-one.one-index _ c.loop-one-test.true c.one-item.is c.loop-one.invariant.nodes
      c.count_statement-counts.ensures.nodes c.requires.nodes,
)

pub count_block-overflow_add-statements : goal.count_block-overflow_add-statements
count_block-overflow_add-statements t c = omega (
  arith,
  item_fits stmt_count c.args.body.now c.loop-one.one-index _ c.loop-one-test.true c.one-item.is c.loop-one.invariant.statements
      c.count_statement-counts.ensures.statements c.requires.statements,
)

pub count_statement-overflow_add-result : goal.count_statement-overflow_add-result
count_statement-overflow_add-result t c =
    omega (arith, nodes_if c.in-If.is c.as_slice.ensures c.as_slice-in-If.ensures, c.requires.nodes)

pub count_statement-overflow_add-result-in-If : goal.count_statement-overflow_add-result-in-If
count_statement-overflow_add-result-in-If t c =
    omega (arith, nodes_if c.in-If.is c.as_slice.ensures c.as_slice-in-If.ensures, c.requires.nodes)

pub count_statement-overflow_add-result-in-If-2 : goal.count_statement-overflow_add-result-in-If-2
count_statement-overflow_add-result-in-If-2 t c =
    omega (arith, count_if c.in-If.is c.as_slice.ensures c.as_slice-in-If.ensures, c.requires.statements)

pub count_statement-overflow_add-result-in-If-3 : goal.count_statement-overflow_add-result-in-If-3
count_statement-overflow_add-result-in-If-3 t c =
    omega (arith, count_if c.in-If.is c.as_slice.ensures c.as_slice-in-If.ensures, c.requires.statements)
