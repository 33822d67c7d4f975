-- Each new column is checked beside those made before it, and a fault in one is that of all.
use Rattle.std.proofs.{Common.{sym, ◌∙◌, arith}, lemmas.List.at_drop_all}
use Rattle.query_lang.specs.TypedStreams.{new_columns}
use Rattle.query_types.{specs.Numbers.greatest_number, proofs.{CheckLemmas.{stops_after, more}, ColumnSteps.column_turn}}
use Rattle.query_types.proofs.CountSteps.{greatest_more, greatest_ends}
use Rattle.query_types.proofs.columns.check_columns.Goals as goal

pub returns-in_err-add_column-clause-given : goal.returns-in_err-add_column-clause-given
returns-in_err-add_column-clause-given c =
    stops_after _ _ (sym c.loop-column.invariant.given ∙ column_turn c.args.columns.now c.args.hidden.now c.args.new.now
    c.loop-column.column-index c.loop-column.made c.loop-column-test.true c.column-item.is) _ _ _
    c.from_residual.ensures.1 c.in_err-add_column.ensures.given

pub loop-column-preserved : goal.loop-column-preserved
loop-column-preserved c = record {
  given = more _ _ (column_turn c.args.columns.now c.args.hidden.now c.args.new.now c.loop-column.column-index c.loop-column.made
      c.loop-column-test.true c.column-item.is)
      c.in_ok-add_column.ensures.given c.loop-column.invariant.given;
  numbers = greatest_more (λ column. greatest_number column.value) c.args.new.now c.loop-column.column-index c.loop-column-test.true
      c.column-item.is
      c.in_ok-add_column.ensures.numbers c.loop-column.invariant.numbers;
}

pub returns-clause-given : goal.returns-clause-given
returns-clause-given c =
    sym c.loop-column.invariant.given ∙ at_drop_all (new_columns c.args.columns.now c.args.hidden.now c.loop-column.made) c.args.new.now
    c.loop-column.column-index
    c.loop-column-test.false

pub returns-clause-numbers : goal.returns-clause-numbers
returns-clause-numbers c =
    greatest_ends (λ column. greatest_number column.value) c.args.new.now c.loop-column.column-index c.loop-column-test.false (omega arith)
    c.loop-column.invariant.numbers
