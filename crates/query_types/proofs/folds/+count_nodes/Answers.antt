-- An expression has one node more than its operands, and what is left of a call's arguments is counted after the argument.
use Rattle.std.{proofs.{Common.{refl, arith}, lemmas.List.at_drop_all}, specs.Prelude.sum_by}
use Rattle.query_lang.specs.TypedFolds.{expr_nodes}
use Rattle.query_types.proofs.CountSteps.{item_within, item_counted, nodes_not, nodes_binary, nodes_call}
use Rattle.query_types.proofs.folds.+count_nodes.Goals as goal

pub count_nodes-requires : goal.count_nodes-requires
count_nodes-requires t c =
    let n = nodes_not c.in-Not.is c.get.ensures in (omega (arith, n, c.decreases), omega (arith, n, c.requires))

pub count_nodes-requires-in-Binary : goal.count_nodes-requires-in-Binary
count_nodes-requires-in-Binary t c =
    let n = nodes_binary c.in-Binary.is c.get-in-Binary.ensures refl in (omega (arith, n, c.decreases), omega (arith, n, c.requires))

pub count_nodes-requires-in-Binary-2 : goal.count_nodes-requires-in-Binary-2
count_nodes-requires-in-Binary-2 t c =
    let n = nodes_binary c.in-Binary.is refl c.get-in-Binary-2.ensures in (omega (arith, n, c.decreases), omega (arith, n, c.requires))

pub count_nodes-all-requires : goal.count_nodes-all-requires
count_nodes-all-requires t c =
    let n = nodes_call c.in-Call.is c.as_slice-argument-items.ensures in
    let m = item_within expr_nodes _ c.arguments.argument-index c.arguments-test.true c.argument-item.is in
    (omega (arith, n, m, c.decreases), omega (arith, n, m, c.requires))

pub overflow_add-all : goal.overflow_add-all
overflow_add-all t c = omega (
  arith,
  nodes_call c.in-Call.is c.as_slice-argument-items.ensures,
  item_counted expr_nodes c.as_slice-argument-items.result.now c.arguments.argument-index _ c.arguments-test.true c.argument-item.is
      c.arguments.invariant c.count_nodes-all.ensures,
  c.requires,
)

pub arguments-preserved : goal.arguments-preserved
arguments-preserved t c = item_counted expr_nodes c.as_slice-argument-items.result.now c.arguments.argument-index _ c.arguments-test.true
    c.argument-item.is c.arguments.invariant c.count_nodes-all.ensures

pub returns-after-arguments : goal.returns-after-arguments
returns-after-arguments t c = omega (
  arith,
  nodes_call c.in-Call.is c.as_slice-argument-items.ensures,
  at_drop_all (sum_by expr_nodes) c.as_slice-argument-items.result.now c.arguments.argument-index c.arguments-test.false,
)
