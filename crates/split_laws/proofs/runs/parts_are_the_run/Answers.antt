use Rattle.split_laws.proofs.{OtherFacts.{split_fields_are_keys, sums_of_pieces, valid_rows_of_parts}, WholeFacts.whole_runs}
use Rattle.split_laws.proofs.runs.parts_are_the_run.Goals as goal

pub returns-clause-tables : goal.returns-clause-tables
returns-clause-tables c = whole_runs c.accepted_tables_are_in_order.ensures c.accepted_are_valid.ensures

pub returns-clause-valid_rows : goal.returns-clause-valid_rows
returns-clause-valid_rows c = valid_rows_of_parts c.accepted_fields_keep_keys.ensures c.accepted_are_valid.ensures

pub returns-clause-keys : goal.returns-clause-keys
returns-clause-keys c = split_fields_are_keys c.accepted_are_valid.ensures

pub returns-clause-sums : goal.returns-clause-sums
returns-clause-sums c = sums_of_pieces c.accepted_are_valid.ensures c.accepted_start_as_words.ensures
