-- The columns of a scope are its state variables and then its arguments.
use Rattle.std.proofs.Common.{[], ◌++◌}
use Rattle.query_lang.specs.TypedExprs.{word_of}
use Rattle.query_types.proofs.CheckLemmas.{same_checked}
use Rattle.query_types.proofs.bodies.fold_word.Goals as goal

pub returns-clause-given : goal.returns-clause-given
returns-clause-given c =
    same_checked c.check_word.result (λ columns. word_of columns [] c.args.e.now) c.args.scope.columns.now
    (c.args.scope.states.now ++ c.args.scope.args.now) c.requires.columns c.check_word.ensures.given
