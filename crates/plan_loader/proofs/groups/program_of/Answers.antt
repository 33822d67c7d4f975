use Rattle.plan_loader.proofs.Folds.{whole_within}
use Rattle.plan_loader.proofs.groups.program_of.Goals as goal

pub fold_of-requires-clause-within : goal.fold_of-requires-clause-within
fold_of-requires-clause-within c = whole_within c.args.one.now c.requires
