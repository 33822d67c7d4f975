-- A valid final reads tables that are there, and each operator makes its own rows of them.
use Rattle.std.proofs.Common.{◌<◌, subst}
use Rattle.query_lang.specs.{Folds.IsValidTerm, Terms.term_of}
use Rattle.final_queries.proofs.TablesRead.{operator_valid, table_within, lent_at, table_at, rows_at, words_valid, slots_valid, fold_valid}
use Rattle.final_queries.proofs.TablesRead.{fold_args_of}
use Rattle.final_queries.proofs.run.rows_made.Goals as goal

pub get-table-requires : goal.get-table-requires
get-table-requires g c = table_within _ _ (operator_valid _ _ _ _ _ c.in-Filter.is c.requires.valid).0

pub get-table-requires-in-Map : goal.get-table-requires-in-Map
get-table-requires-in-Map g c = table_within _ _ (operator_valid _ _ _ _ _ c.in-Map.is c.requires.valid).0

pub get-table-requires-in-Group : goal.get-table-requires-in-Group
get-table-requires-in-Group g c = table_within _ _ (operator_valid _ _ _ _ _ c.in-Group.is c.requires.valid).0

pub get-table-requires-in-Top : goal.get-table-requires-in-Top
get-table-requires-in-Top g c = table_within _ _ (operator_valid _ _ _ _ _ c.in-Top.is c.requires.valid).0

pub get-first-requires : goal.get-first-requires
get-first-requires g c = table_within _ _ (operator_valid _ _ _ _ _ c.in-Join.is c.requires.valid).0

pub get-second-requires : goal.get-second-requires
get-second-requires g c = table_within _ _ (operator_valid _ _ _ _ _ c.in-Join.is c.requires.valid).1

pub get-fold-requires : goal.get-fold-requires
get-fold-requires g c = (operator_valid _ _ _ _ _ c.in-Group.is c.requires.valid).1.is_fold

pub filtered-requires : goal.filtered-requires
filtered-requires g c =
    let valid = operator_valid _ _ _ _ _ c.in-Filter.is c.requires.valid in
    let table = lent_at _ _ _ _ c.get-table.ensures c.len.ensures c.requires.tables in
    record { condition = subst (λ w. IsValidTerm w (term_of c.in-Filter.condition)) table.wide valid.1.0.0; rows = table.columns }

pub mapped-requires : goal.mapped-requires
mapped-requires g c =
    let valid = operator_valid _ _ _ _ _ c.in-Map.is c.requires.valid in
    let table = lent_at _ _ _ _ c.get-table-in-Map.ensures c.len-in-Map.ensures c.requires.tables in
    record { values = words_valid _ _ _ _ table.wide c.as_slice.ensures valid.1; rows = table.columns }

pub grouped-requires : goal.grouped-requires
grouped-requires g c =
    let valid = operator_valid _ _ _ _ _ c.in-Group.is c.requires.valid in
    let table = lent_at _ _ _ _ c.get-table-in-Group.ensures c.len-width.ensures c.requires.tables in
    record {
      valid = fold_valid _ _ _ c.get-fold.ensures c.requires.folds;
      keys = slots_valid _ _ _ _ table.wide c.as_slice-in-Group.ensures valid.1.keys_are_slots;
      args = slots_valid _ _ _ _ table.wide c.as_slice-in-Group-2.ensures valid.1.args_are_slots;
      all_args = fold_args_of c.args.folds.now c.in-Group.f _ _ _ c.as_slice-in-Group-2.ensures c.get-fold.ensures valid.1.all_args;
      rows = table.columns;
    }

pub joined-requires : goal.joined-requires
joined-requires g c = record {
  left = (table_at _ _ _ c.get-first.ensures c.requires.tables).order;
  right = (table_at _ _ _ c.get-second.ensures c.requires.tables).order;
}

pub top-requires : goal.top-requires
top-requires g c =
    let valid = operator_valid _ _ _ _ _ c.in-Top.is c.requires.valid in
    let table = lent_at _ _ _ _ c.get-table-in-Top.ensures c.len-width-in-Top.ensures c.requires.tables in
    record {
      column = subst (λ w. c.in-Top.column < w) table.wide valid.1;
      rows = table.columns;
      order = table.order;
      kept = valid.2;
    }

pub returns-in-Filter : goal.returns-in-Filter
returns-in-Filter g c =
    record { rows = rw (c.in-Filter.is, ← rows_at _ _ _ c.get-table.ensures) c.filtered.ensures.rows; steps = c.filtered.ensures.steps }

pub returns-in-Map : goal.returns-in-Map
returns-in-Map g c = record {
  rows = rw (c.in-Map.is, ← rows_at _ _ _ c.get-table-in-Map.ensures, ← c.as_slice.ensures) c.mapped.ensures.rows;
  steps = c.mapped.ensures.steps;
}

pub returns-in-Group : goal.returns-in-Group
returns-in-Group g c = record {
  rows = rw (
    c.in-Group.is,
    ← rows_at _ _ _ c.get-table-in-Group.ensures,
    c.get-fold.ensures,
    ← c.as_slice-in-Group.ensures,
    ← c.as_slice-in-Group-2.ensures,
  ) c.grouped.ensures.rows;
  steps = c.grouped.ensures.steps;
}

pub returns-in-Join : goal.returns-in-Join
returns-in-Join g c = record {
  rows = rw (c.in-Join.is, ← rows_at _ _ _ c.get-first.ensures, ← rows_at _ _ _ c.get-second.ensures) c.joined.ensures.rows;
  steps = c.joined.ensures.steps;
}

pub returns-in-Top : goal.returns-in-Top
returns-in-Top g c = record {
  rows = rw (c.in-Top.is, ← rows_at _ _ _ c.get-table-in-Top.ensures) c.top.ensures.rows;
  steps = c.top.ensures.steps;
}
