use Rattle.epoch_entry.specs.Foldings.{folding_of}
use Rattle.switch_core.proofs.laws.tables_are_of_folds.Goals as goal

pub returns : goal.returns
returns c f sizes folding opening absorbing kind heading closed =
    c.alike_foldings_make_one_table.ensures.by_closed heading folding (folding_of f) closed
    (record { row_per_epoch = kind.row_per_epoch; states = kind.folded })
