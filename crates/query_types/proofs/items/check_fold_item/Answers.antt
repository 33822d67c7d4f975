-- There are few folds before an item.
use Rattle.query_types.proofs.FitLaws.{folds_within}
use Rattle.query_types.proofs.items.check_fold_item.Goals as goal

pub add_fold-requires : goal.add_fold-requires
add_fold-requires c = folds_within c.args.earlier.now c.requires.fits
