-- The row that is lent.
use Rattle.epoch_model.specs.declared.tables.Row.{Row}
use Rattle.table_rows.specs.declared.lent.RowRef.{RowRef}

abbrev pub row_of : RowRef → Row
row_of lent = record {
  key = lent.key.now;
  mark = lent.mark;
  epoch = lent.epoch;
  epochs = lent.epochs;
  values = lent.values.now;
}
