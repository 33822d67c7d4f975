use Rattle.query_types.proofs.{Makings.fold_made, StmtLaws.fold_valid}
use Rattle.query_types.proofs.folds.check_fold.Goals as goal

pub returns-in-Ok-clause-valid : goal.returns-in-Ok-clause-valid
returns-in-Ok-clause-valid c = fold_valid c.in-Ok.ensures.numbers c.requires.nodes c.requires.statements
    (fold_made c.args.d.now c.in-Ok.f c.in-Ok.ensures.given)
