use Rattle.std.proofs.Common.{◌∙◌, sym, ap}
use Rattle.table_rows.proofs.LentFacts.{rows_from}
use Rattle.enclosure_folds.specs.KeyBounds.{goes_on}
use Rattle.enclosure_folds.proofs.bounds.goes_on.Goals as goal

pub returns-then-next-len : goal.returns-then-next-len
returns-then-next-len c =
    c.is_same_key.ensures ∙ sym (ap (goes_on _) (rows_from c.args.rows.now c.args.next _ c.get.ensures))
