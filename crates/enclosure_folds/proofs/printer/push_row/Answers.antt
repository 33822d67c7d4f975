use Rattle.std.proofs.{Common.arith, lemmas.Grind.common_steps}
use Rattle.enclosure_folds.proofs.printer.push_row.Goals as goal

pub returns : goal.returns
returns c = grind (arith, common_steps)
