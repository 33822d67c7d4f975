use Rattle.fold_class.proofs.TranslationLaws.{rows_moves, rows_from_zeros}
use Rattle.fold_class.proofs.laws.rows_translate.Goals as goal

pub returns-clause-moves : goal.returns-clause-moves
returns-clause-moves c = rows_moves

pub returns-clause-from_zeros : goal.returns-clause-from_zeros
returns-clause-from_zeros c = rows_from_zeros
